-- Items change a state one after the other, and come to patterns.
use Rattle.cd_conf.specs.declared.item.Item.{Item}
use Rattle.cd_reading.specs.First.{◌>>=◌}
use Rattle.cd_reading.specs.Gives.{Refuses}
use Rattle.cd_settings.proofs.FreeFaults.{IsAmong, on_left, on_right, widened}
use Rattle.cd_settings.specs.BigPatterns.{behind, has_line, item_fault, lines_of_all}
use Rattle.cd_settings.specs.Tables.{after_all}
use Rattle.cd_settings.specs.declared.fault.ItemFault.{ItemFault}
use Rattle.cd_settings.specs.declared.fault.SettingsFault.{SettingsFault}
use Rattle.std.proofs.Common.{List, None, Ok, Option, Result, Some, add-one, ap, drop, drop-cons, get_or, length, refl, subst, sym, true, ℕ, ◌+◌, ◌++◌, ◌<◌, ◌∙◌, ◌∷◌, ◌≡◌, ◌≤◌}
use Rattle.std.proofs.lemmas.List.{drop_all}

-- what items change a state to, all items change the first state to, and what patterns they come to these come to
pub record Stands {S : Type 0} (change : S → Item → Result S SettingsFault) (lines : S → Item → List ℕ) (s : S) (items : List Item) (begun : S) (all : List Item) : Type 0 where
  pub reads : after_all change s items ≡ after_all change begun all
  pub patterns : IsAmong (lines_of_all change lines s items) (lines_of_all change lines begun all)

pub starts : {S : Type 0} (change : S → Item → Result S SettingsFault) (lines : S → Item → List ℕ) (s : S) (items : List Item) → Stands change lines s items s items
starts change lines s items = record { reads = refl; patterns = λ line h. h }

-- the next item, and those behind it
at : (items : List Item) (i : ℕ) (x : Item) → i < length items → x ≡ get_or items i x → drop i items ≡ x ∷ drop (i + 1) items
at items i x lt is =
    let here : drop i items ≡ get_or items i x ∷ drop (i + 1) items = rw add-one (drop-cons items i x lt) in
    here ∙ ap (λ (item : Item). item ∷ drop (i + 1) items) (sym is)

read_next : {S : Type 0} (change : S → Item → Result S SettingsFault) (s now : S) (x : Item) (rest : List Item) → change s x ≡ Ok now → after_all change s (x ∷ rest) ≡ after_all change now rest
unfolding after_all
read_next {S} change s now x rest h = ap (λ (r : Result S SettingsFault). r >>= λ changed. after_all change changed rest) h

lines_next : {S : Type 0} (change : S → Item → Result S SettingsFault) (lines : S → Item → List ℕ) (s now : S) (x : Item) (rest : List Item) → change s x ≡ Ok now
    → lines_of_all change lines s (x ∷ rest) ≡ lines s x ++ lines_of_all change lines now rest
unfolding lines_of_all
lines_next {S} change lines s now x rest h = ap (λ (r : Result S SettingsFault). lines s x ++ behind r (λ changed. lines_of_all change lines changed rest)) h

pub goes_on : {S : Type 0} (change : S → Item → Result S SettingsFault) (lines : S → Item → List ℕ) (s now begun : S) (items all : List Item) (i : ℕ) (x : Item) → i < length items → x ≡ get_or items i x
    → change s x ≡ Ok now → Stands change lines s (drop i items) begun all → Stands change lines now (drop (i + 1) items) begun all
goes_on {S} change lines s now begun items all i x lt is h so_far =
    let rest = drop (i + 1) items in
    let here = subst (λ (xs : List Item). Stands change lines s xs begun all) (at items i x lt is) so_far in
    record {
      reads = sym (read_next change s now x rest h) ∙ here.reads;
      patterns = λ line h2.
          here.patterns line
          (subst (λ (xs : List ℕ). has_line xs line ≡ true) (sym (lines_next change lines s now x rest h)) (on_right (lines s x) (lines_of_all change lines now rest) line h2));
    }

-- the next item is the last that is read
fault_next : {S : Type 0} (change : S → Item → Result S SettingsFault) (s : S) (x : Item) (rest : List Item) (o : Option SettingsFault) → Refuses o (change s x) → Refuses o (after_all change s (x ∷ rest))
unfolding after_all
fault_next change s x rest None h = tt
fault_next {S} change s x rest (Some f) h = ap (λ (r : Result S SettingsFault). r >>= λ changed. after_all change changed rest) h

first_lines : {S : Type 0} (change : S → Item → Result S SettingsFault) (lines : S → Item → List ℕ) (s : S) (x : Item) (rest : List Item) → IsAmong (lines s x) (lines_of_all change lines s (x ∷ rest))
unfolding lines_of_all
first_lines change lines s x rest = on_left (lines s x) (behind (change s x) (λ changed. lines_of_all change lines changed rest))

pub ends : {S : Type 0} (change : S → Item → Result S SettingsFault) (lines : S → Item → List ℕ) (s begun : S) (items all : List Item) (i : ℕ) (x : Item) (e : ItemFault) → i < length items → x ≡ get_or items i x
    → Refuses (item_fault (lines s x) e) (change s x) → Stands change lines s (drop i items) begun all
    → Refuses (item_fault (lines_of_all change lines begun all) e) (after_all change begun all)
ends {S} change lines s begun items all i x e lt is h so_far =
    let rest = drop (i + 1) items in
    let here = subst (λ (xs : List Item). Stands change lines s xs begun all) (at items i x lt is) so_far in
    widened e (lines s x) (lines_of_all change lines begun all) (after_all change begun all)
    (λ line h2. here.patterns line (first_lines change lines s x rest line h2))
    (subst (λ (r : Result S SettingsFault). Refuses (item_fault (lines s x) e) r) here.reads (fault_next change s x rest (item_fault (lines s x) e) h))

pub is_done : {S : Type 0} (change : S → Item → Result S SettingsFault) (lines : S → Item → List ℕ) (s begun : S) (items all : List Item) (i : ℕ) → length items ≤ i
    → Stands change lines s (drop i items) begun all → after_all change begun all ≡ Ok s
unfolding after_all
is_done {S} change lines s begun items all i le so_far = sym so_far.reads ∙ ap (after_all change s) (drop_all i items le)
