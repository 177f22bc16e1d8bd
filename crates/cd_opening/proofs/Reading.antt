-- Types files read one after the other: what those behind come to from here, the whole comes to.
use Rattle.cd_io.specs.World.{FileTells, after_opening}
use Rattle.cd_opening.specs.File.{HasSets, IsNext, Leaves, ReadsNoSets}
use Rattle.cd_opening.specs.Types.{EndsAt, EndsBy, HasTypes, Reaches, after_openings, at_path, openings, put, sets_at, together, types_after}
use Rattle.cd_opening.specs.declared.fault.OpeningFault.TheVariants as faults
use Rattle.cd_opening.specs.declared.fault.OpeningFault.{OpeningFault}
use Rattle.cd_reading.specs.First.{all_or_first, ◌>>=◌}
use Rattle.cd_types.specs.Text.{sets_of_text}
use Rattle.cd_types.specs.Types.{builtin}
use Rattle.cd_types.specs.declared.fault.TypesFault.{TypesFault}
use Rattle.cd_value.specs.declared.data.DataSet.{DataSet}
use Rattle.std.proofs.Common.{Err, List, None, Ok, Option, Result, Some, [], add-one, ap, ap₂, drop, drop-cons, get_or, length, map, refl, suc, subst, sym, unwrap_or, ℕ, ◌+◌, ◌<◌, ◌∙◌, ◌∷◌, ◌≡◌, ◌≤◌}
use Rattle.std.proofs.lemmas.List.{append-nil, append_assoc, drop_all}
use Rattle.std.specs.List.{zip}
use Rattle.std.specs.Prelude.{IfSome, option_map, ◌++◌}

-- whatever texts the files at the paths to do have, the whole comes to what they come to after the types so far
pub record Stands (paths todo : List (List ℕ)) (types : Option (List DataSet)) (begun now : Option (List FileTells)) : Type 0 where
  pub whole : (rest : List (Option (List ℕ))) → length rest ≡ length todo → IfSome now (λ told. rest ≡ openings todo told) → HasTypes paths begun (types_after types todo rest)
  pub left : option_map (after_openings todo) now ≡ option_map (after_openings paths) begun

pub begins : (paths : List (List ℕ)) (files : Option (List FileTells)) → Stands paths paths None files files
begins paths files = record {
  whole = λ rest many next. record { texts = rest; many = many; next = next; types = refl };
  left = refl;
}

-- ---- one file more

regroup : (so_far : Option (List DataSet)) (sets : List DataSet) (read : Result (List (List DataSet)) OpeningFault)
    → ((read >>= λ xs. Ok (sets ∷ xs)) >>= λ all. Ok (together so_far all)) ≡ (read >>= λ all. Ok (together (put so_far sets) all))
regroup so_far sets (Ok xs) = refl
regroup so_far sets (Err e) = refl

taken : (so_far : Option (List DataSet)) (p : List ℕ) (ps : List (List ℕ)) (text : List ℕ) (sets : List DataSet) (rest : List (Option (List ℕ))) → sets_of_text text ≡ Ok sets
    → types_after so_far (p ∷ ps) (Some text ∷ rest) ≡ types_after (put so_far sets) ps rest
unfolding all_or_first
taken so_far p ps text sets rest is =
    ap (λ (r : Result (List DataSet) TypesFault). ((at_path p r >>= λ x. all_or_first (map (λ file. sets_at file.0 file.1) (zip ps rest)) >>= λ xs. Ok (x ∷ xs)) >>= λ all. Ok (together so_far all))) is
    ∙ regroup so_far sets (all_or_first (map (λ file. sets_at file.0 file.1) (zip ps rest)))

refused : (so_far : Option (List DataSet)) (p : List ℕ) (ps : List (List ℕ)) (text : List ℕ) (fault : TypesFault) (rest : List (Option (List ℕ))) → sets_of_text text ≡ Err fault
    → types_after so_far (p ∷ ps) (Some text ∷ rest) ≡ Err (faults.Types p fault)
unfolding all_or_first
refused so_far p ps text fault rest is =
    ap (λ (r : Result (List DataSet) TypesFault). ((at_path p r >>= λ x. all_or_first (map (λ file. sets_at file.0 file.1) (zip ps rest)) >>= λ xs. Ok (x ∷ xs)) >>= λ all. Ok (together so_far all))) is

opens : (p : List ℕ) (ps : List (List ℕ)) (text : List ℕ) (rest : List (Option (List ℕ))) (now : Option (List FileTells)) → IsNext p now text
    → IfSome (option_map (after_opening p) now) (λ told. rest ≡ openings ps told) → IfSome now (λ told. Some text ∷ rest ≡ openings (p ∷ ps) told)
unfolding openings
opens p ps text rest None first behind = tt
opens p ps text rest (Some told) first behind = ap₂ (λ (t : Option (List ℕ)) (ts : List (Option (List ℕ))). t ∷ ts) (sym first) behind

left_behind : (p : List ℕ) (ps : List (List ℕ)) (now : Option (List FileTells)) → option_map (after_openings ps) (option_map (after_opening p) now) ≡ option_map (after_openings (p ∷ ps)) now
left_behind p ps None = refl
left_behind p ps (Some told) = refl

step : (paths : List (List ℕ)) (p : List ℕ) (ps : List (List ℕ)) (types : Option (List DataSet)) (sets : List DataSet) (begun now : Option (List FileTells)) → HasSets p now (Ok sets)
    → Stands paths (p ∷ ps) types begun now → Stands paths ps (put types sets) begun (option_map (after_opening p) now)
step paths p ps types sets begun now read s = record {
  whole = λ rest many next. subst (λ (r : Result (List DataSet) OpeningFault). HasTypes paths begun r) (taken types p ps read.text sets rest read.sets)
      (s.whole (Some read.text ∷ rest) (ap (λ (n : ℕ). suc n) many) (opens p ps read.text rest now read.next next));
  left = left_behind p ps now ∙ s.left;
}

-- ---- texts of files that aren't read any more

many_openings : (ps : List (List ℕ)) (told : List FileTells) → length (openings ps told) ≡ length ps
unfolding openings
many_openings [] told = refl
many_openings (p ∷ ps) told = ap (λ (n : ℕ). suc n) (many_openings ps (after_opening p told))

abbrev untold : List (List ℕ) → List (Option (List ℕ))
untold [] = []
untold (p ∷ ps) = None ∷ untold ps

many_untold : (ps : List (List ℕ)) → length (untold ps) ≡ length ps
many_untold [] = refl
many_untold (p ∷ ps) = ap (λ (n : ℕ). suc n) (many_untold ps)

behind : (ps : List (List ℕ)) (now : Option (List FileTells)) → (rest : List (Option (List ℕ))) × (length rest ≡ length ps) × IfSome now (λ told. rest ≡ openings ps told)
behind ps None = (untold ps, many_untold ps, tt)
behind ps (Some told) = (openings ps told, many_openings ps told, refl)

fault_of : (paths : List (List ℕ)) (p : List ℕ) (ps : List (List ℕ)) (types : Option (List DataSet)) (fault : TypesFault) (begun now : Option (List FileTells)) → HasSets p now (Err fault)
    → Stands paths (p ∷ ps) types begun now → HasTypes paths begun (Err (faults.Types p fault))
fault_of paths p ps types fault begun now read s =
    let rest = behind ps (option_map (after_opening p) now) in
    subst (λ (r : Result (List DataSet) OpeningFault). HasTypes paths begun r) (refused types p ps read.text fault rest.0 read.sets)
    (s.whole (Some read.text ∷ rest.0) (ap (λ (n : ℕ). suc n) rest.1) (opens p ps read.text rest.0 now read.next rest.2))

-- ---- no file is left

nothing : (now : Option (List FileTells)) → IfSome now (λ told. [] ≡ openings [] told)
unfolding openings
nothing None = tt
nothing (Some told) = refl

after_one : (p : List ℕ) (now : Option (List FileTells)) → option_map (after_opening p) now ≡ option_map (after_openings (p ∷ [])) now
after_one p None = refl
after_one p (Some told) = refl

unread : (now : Option (List FileTells)) → now ≡ option_map (after_openings []) now
unread None = refl
unread (Some told) = refl

done : (paths : List (List ℕ)) (types : Option (List DataSet)) (begun now : Option (List FileTells)) → Stands paths [] types begun now → HasTypes paths begun (Ok (unwrap_or types builtin))
unfolding all_or_first
done paths types begun now s = s.whole [] refl (nothing now)

-- ---- by the place in the paths

at : (paths : List (List ℕ)) (i : ℕ) (p : List ℕ) → i < length paths → p ≡ get_or paths i p → drop i paths ≡ p ∷ drop (i + 1) paths
at paths i p lt is =
    let here : drop i paths ≡ get_or paths i p ∷ drop (i + 1) paths = rw add-one (drop-cons paths i p lt) in
    here ∙ ap (λ (x : List ℕ). x ∷ drop (i + 1) paths) (sym is)

-- the paths before the place are read, whatever paths stand behind them
pub record Reads (paths : List (List ℕ)) (i : ℕ) (types : Option (List DataSet)) (begun now : Option (List FileTells)) : Type 0 where
  pub before : List (List ℕ)
  pub named : paths ≡ before ++ drop i paths
  pub stands : (todo : List (List ℕ)) → Stands (before ++ todo) todo types begun now

-- at the first place none is read
pub starts : (paths : List (List ℕ)) (files : Option (List FileTells)) → Reads paths 0 None files files
starts paths files = record { before = []; named = refl; stands = λ todo. begins todo files }

here : (paths : List (List ℕ)) (i : ℕ) (types : Option (List DataSet)) (begun now : Option (List FileTells)) → Reads paths i types begun now → Stands paths (drop i paths) types begun now
here paths i types begun now r = subst (λ (x : List (List ℕ)). Stands x (drop i paths) types begun now) (sym r.named) (r.stands (drop i paths))

behind_one : (before : List (List ℕ)) (p : List ℕ) (todo : List (List ℕ)) → (before ++ (p ∷ [])) ++ todo ≡ before ++ (p ∷ todo)
behind_one before p todo = append_assoc before (p ∷ []) todo

further : (before : List (List ℕ)) (p : List ℕ) (types : Option (List DataSet)) (sets : List DataSet) (begun now : Option (List FileTells)) → HasSets p now (Ok sets)
    → ((todo : List (List ℕ)) → Stands (before ++ todo) todo types begun now)
    → (todo : List (List ℕ)) → Stands ((before ++ (p ∷ [])) ++ todo) todo (put types sets) begun (option_map (after_opening p) now)
further before p types sets begun now read stands todo =
    subst (λ (x : List (List ℕ)). Stands x todo (put types sets) begun (option_map (after_opening p) now)) (sym (behind_one before p todo))
    (step (before ++ (p ∷ todo)) p todo types sets begun now read (stands (p ∷ todo)))

pub goes_on : (paths : List (List ℕ)) (i : ℕ) (p : List ℕ) (types both : Option (List DataSet)) (sets : List DataSet) (begun now after : Option (List FileTells)) → i < length paths → p ≡ get_or paths i p
    → HasSets p now (Ok sets) → after ≡ option_map (after_opening p) now → both ≡ put types sets
    → Reads paths i types begun now → Reads paths (i + 1) both begun after
goes_on paths i p types both sets begun now after lt is read files merged r = record {
  before = r.before ++ (p ∷ []);
  named = r.named ∙ ap (λ (x : List (List ℕ)). r.before ++ x) (at paths i p lt is) ∙ sym (behind_one r.before p (drop (i + 1) paths));
  stands = λ todo.
      subst (λ (x : Option (List DataSet)). Stands ((r.before ++ (p ∷ [])) ++ todo) todo x begun after) (sym merged)
      (subst (λ (x : Option (List FileTells)). Stands ((r.before ++ (p ∷ [])) ++ todo) todo (put types sets) begun x) (sym files)
      (further r.before p types sets begun now read r.stands todo));
}

-- ---- a file that ends the work

reaches : (paths : List (List ℕ)) (i : ℕ) (p : List ℕ) (types : Option (List DataSet)) (begun now : Option (List FileTells)) → i < length paths → p ≡ get_or paths i p
    → Reads paths i types begun now → Reaches paths begun p
reaches paths i p types begun now lt is r = record {
  before = r.before;
  rest = drop (i + 1) paths;
  named = r.named ∙ ap (λ (x : List (List ℕ)). r.before ++ x) (at paths i p lt is);
  types = unwrap_or types builtin;
  good = subst (λ (x : List (List ℕ)). HasTypes x begun (Ok (unwrap_or types builtin))) (append-nil r.before) (done (r.before ++ []) types begun now (r.stands []));
}

unopened : (before : List (List ℕ)) (types : Option (List DataSet)) (begun now : Option (List FileTells)) → ((todo : List (List ℕ)) → Stands (before ++ todo) todo types begun now)
    → now ≡ option_map (after_openings (before ++ [])) begun
unopened before types begun now stands = unread now ∙ (stands []).left

opened : (before : List (List ℕ)) (p : List ℕ) (types : Option (List DataSet)) (begun now : Option (List FileTells)) → ((todo : List (List ℕ)) → Stands (before ++ todo) todo types begun now)
    → option_map (after_opening p) now ≡ option_map (after_openings (before ++ (p ∷ []))) begun
opened before p types begun now stands = after_one p now ∙ (stands (p ∷ [])).left

pub ends_at : (paths : List (List ℕ)) (i : ℕ) (p : List ℕ) (types : Option (List DataSet)) (begun now after : Option (List FileTells)) (e : OpeningFault) → i < length paths → p ≡ get_or paths i p
    → ReadsNoSets p now e → Leaves {A = List DataSet} p now after (Err e) → Reads paths i types begun now → EndsBy paths begun after e
unfolding reaches
ends_at paths i p types begun now after (faults.Types x fault) lt is read left r =
    subst (λ (y : List ℕ). HasTypes paths begun (Err (faults.Types y fault)) × EndsAt paths begun after y (y ∷ [])) (sym read.0) (
      fault_of paths p (drop (i + 1) paths) types fault begun now read.1 (subst (λ (todo : List (List ℕ)). Stands paths todo types begun now) (at paths i p lt is) (here paths i types begun now r)),
      record { reached = reaches paths i p types begun now lt is r; left = left ∙ opened r.before p types begun now r.stands },
    )
ends_at paths i p types begun now after (faults.Open x) lt is read left r =
    subst (λ (y : List ℕ). EndsAt paths begun after y []) (sym read)
    (record { reached = reaches paths i p types begun now lt is r; left = left ∙ unopened r.before types begun now r.stands })
ends_at paths i p types begun now after (faults.Read x) lt is read left r =
    subst (λ (y : List ℕ). EndsAt paths begun after y (y ∷ [])) (sym read)
    (record { reached = reaches paths i p types begun now lt is r; left = left ∙ opened r.before p types begun now r.stands })
ends_at paths i p types begun now after faults.Memory lt is read left r = tt
ends_at paths i p types begun now after (faults.Conf fault) lt is read left r = read
ends_at paths i p types begun now after (faults.Settings fault) lt is read left r = read

-- ---- all files are read

pub done_at : (paths : List (List ℕ)) (i : ℕ) (types : Option (List DataSet)) (known : List DataSet) (begun now : Option (List FileTells)) → length paths ≤ i → known ≡ unwrap_or types builtin
    → Reads paths i types begun now → HasTypes paths begun (Ok known) × (now ≡ option_map (after_openings paths) begun)
done_at paths i types known begun now le is r =
    let last = subst (λ (todo : List (List ℕ)). Stands paths todo types begun now) (drop_all i paths le) (here paths i types begun now r) in
    (subst (λ (x : List DataSet). HasTypes paths begun (Ok x)) (sym is) (done paths types begun now last), unread now ∙ last.left)
