-- Which ends come, by what a run promises: what the files come to is one answer.
use Rattle.cd_command.specs.Command.{command}
use Rattle.cd_command.specs.declared.command.Command.{Command}
use Rattle.cd_command.specs.declared.command.Mode.TheVariants.{Lines}
use Rattle.cd_command.specs.declared.command.Mode.{Mode}
use Rattle.cd_conf.proofs.OneTree.{one_tree}
use Rattle.cd_conf.specs.Statements.{statements_of_text}
use Rattle.cd_conf.specs.declared.fault.ConfFault.{ConfFault}
use Rattle.cd_conf.specs.declared.item.Item.{Item}
use Rattle.cd_daemon.specs.declared.Opening.{Opening}
use Rattle.cd_history.specs.declared.given.Given.{Given}
use Rattle.cd_io.specs.Causes.{Rose}
use Rattle.cd_io.specs.Link.{LinkTells}
use Rattle.cd_io.specs.Told.{Loses}
use Rattle.cd_io.specs.World.{FileTells, WorldTells, after_opening, opening}
use Rattle.cd_opening.specs.File.{HasConfFault, HasItems}
use Rattle.cd_opening.specs.Opened.{ComesTo, HasTypesFault}
use Rattle.cd_opening.specs.Types.{HasTypes, openings, types_of}
use Rattle.cd_opening.specs.declared.fault.OpeningFault.TheVariants as faults
use Rattle.cd_opening.specs.declared.fault.OpeningFault.{OpeningFault}
use Rattle.cd_opening.specs.declared.opening.Opened.{Opened}
use Rattle.cd_serve.specs.Promises.{IsTaken, IsWithin, PromisesLines, Writes}
use Rattle.cd_serve.specs.Started.{AreAccepted, AreRefused, FilesComeTo, HasFault, HasTried, IsFree, IsRefusedAt, NoneFailed, end_at}
use Rattle.cd_serve.specs.Tells.{Pairs}
use Rattle.cd_serve.specs.declared.end.End.TheVariants as ends
use Rattle.cd_serve.specs.declared.end.End.{End}
use Rattle.cd_serve.specs.declared.program.TheConstants.{INPUT_LIMIT}
use Rattle.cd_settings.specs.Paths.{paths_of}
use Rattle.cd_settings.specs.Settings.{settings_of}
use Rattle.cd_settings.specs.declared.fault.SettingsFault.{SettingsFault}
use Rattle.cd_settings.specs.declared.settings.Settings.{Settings}
use Rattle.cd_transcript.specs.LineRuns.{Loaded, OnShelf}
use Rattle.cd_value.specs.declared.data.DataSet.{DataSet}
use Rattle.std.proofs.Common.{Err, List, None, Ok, Option, Result, Some, ap, arith, inl, inr, length, length-append, refl, subst, sym, ℕ, ◌++◌, ◌∙◌, ◌≡◌, ◌≤◌, ◌⊎◌}

never_both : {A F : Type 0} (r : Result A F) (x : A) (f : F) → r ≡ Ok x → r ≡ Err f → ⊥
never_both r x f a b = cc

one_fault : {A F : Type 0} (r : Result A F) (f g : F) → r ≡ Err f → r ≡ Err g → f ≡ g
one_fault r f g a b = cc

one_some : {A : Type 0} (o : Option A) (x y : A) → o ≡ Some x → o ≡ Some y → x ≡ y
one_some o x y a b = cc

never_some : {A : Type 0} (o : Option A) (x : A) → o ≡ None → o ≡ Some x → ⊥
never_some o x a b = cc

-- a fault of a text
abbrev IsOfText : OpeningFault → Type 0
IsOfText (faults.Conf fault) = Unit {0}
IsOfText (faults.Types path fault) = Unit {0}
IsOfText (faults.Settings fault) = Unit {0}
IsOfText _ = ⊥

-- ---- what told files come to is one answer

module _ (path : List ℕ) (told : List FileTells) where
  one_text : (t u : List ℕ) → opening path told ≡ Some t → opening path told ≡ Some u → t ≡ u
  one_text t u a b = one_some (opening path told) t u a b

  one_items : (items others : List Item) → HasItems path (Some told) items → HasItems path (Some told) others → items ≡ others
  one_items items others a b =
      one_tree a.text items others a.tree
      (ap statements_of_text (one_text a.text b.text a.next b.next) ∙ b.tree)

  no_conf : (items : List Item) (fault : ConfFault) → HasItems path (Some told) items → HasConfFault path (Some told) fault → ⊥
  no_conf items fault a b =
      never_both (statements_of_text b.text) _ fault (ap statements_of_text (one_text b.text a.text b.next a.next) ∙ a.tree) b.refused

  -- the types of paths, behind the configuration's own opening
  known : (paths : List (List ℕ)) → Result (List DataSet) OpeningFault
  known paths = types_of paths (openings paths (after_opening path told))

  are_known : (paths : List (List ℕ)) (read : Result (List DataSet) OpeningFault) → HasTypes paths (Some (after_opening path told)) read → known paths ≡ read
  unfolding known
  are_known paths read h = ap (types_of paths) (sym h.next) ∙ h.types

  -- .. of the items that another knows
  known_for : (items others : List Item) (read : Result (List DataSet) OpeningFault) → HasItems path (Some told) items → HasItems path (Some told) others
      → HasTypes (paths_of others) (Some (after_opening path told)) read → known (paths_of items) ≡ read
  known_for items others read a b h = ap (λ (is : List Item). known (paths_of is)) (one_items items others a b) ∙ are_known (paths_of others) read h

  set_for : (items others : List Item) (read : Result Settings SettingsFault) → HasItems path (Some told) items → HasItems path (Some told) others
      → settings_of others ≡ read → settings_of items ≡ read
  set_for items others read a b h = ap settings_of (one_items items others a b) ∙ h

  no_types : (items : List Item) (types : List DataSet) (fault : OpeningFault) → HasItems path (Some told) items
      → HasTypes (paths_of items) (Some (after_opening path told)) (Ok types) → HasTypesFault path (Some told) fault → ⊥
  no_types items types fault a h b =
      never_both (known (paths_of items)) types fault (are_known (paths_of items) (Ok types) h) (known_for items b.items (Err fault) a b.read b.refused)

  -- files whose texts have a first fault aren't accepted
  never_accepted : (found : Opened) (fault : OpeningFault) → ComesTo path (Some told) (Ok found) → AreRefused (Some path) (Some told) fault → ⊥
  never_accepted found (faults.Conf fault) a b = no_conf found.items fault a.items b
  never_accepted found (faults.Types at fault) a b = no_types found.items found.types (faults.Types at fault) a.items a.types b
  never_accepted found (faults.Settings fault) a b =
      never_both (settings_of found.items) found.settings fault a.settings (set_for found.items b.refused.items (Err fault) a.items b.refused.read b.first)
  never_accepted found (faults.Open at) a b = b
  never_accepted found (faults.Read at) a b = b
  never_accepted found faults.Memory a b = b

  -- a fault of a text that is named of accepted files is a pattern that may be too big
  accepted_free : (found : Opened) (fault : OpeningFault) → ComesTo path (Some told) (Ok found) → ComesTo path (Some told) (Err fault) → IsOfText fault → IsFree (Some path) (Some told) (end_at fault)
  accepted_free found (faults.Conf fault) a b text = absurd (no_conf found.items fault a.items b)
  accepted_free found (faults.Types at fault) a b text = absurd (no_types found.items found.types (faults.Types at fault) a.items a.types b)
  accepted_free found (faults.Settings fault) a b text =
      elim b.refused [
        | inl is ↦ absurd (never_both (settings_of found.items) found.settings fault a.settings (set_for found.items b.items (Err fault) a.items b.read is))
        | inr big ↦ record { items = b.items; read = b.read; big = big }
      ]
  accepted_free found (faults.Open at) a b text = absurd text
  accepted_free found (faults.Read at) a b text = absurd text
  accepted_free found faults.Memory a b text = absurd text

  -- a fault of a text that is named is the first, or a pattern that may be too big
  both_refused : (fault other : OpeningFault) → ComesTo path (Some told) (Err fault) → IsOfText fault → AreRefused (Some path) (Some told) other
      → (end_at fault ≡ end_at other) ⊎ IsFree (Some path) (Some told) (end_at fault)
  both_refused (faults.Conf f) (faults.Conf g) a s b =
      inl (ap (λ (x : ConfFault). end_at (faults.Conf x)) (one_fault (statements_of_text a.text) f g a.refused (ap statements_of_text (one_text a.text b.text a.next b.next) ∙ b.refused)))
  both_refused (faults.Conf f) (faults.Types at g) a s b = absurd (no_conf b.items f b.read a)
  both_refused (faults.Conf f) (faults.Settings g) a s b = absurd (no_conf b.refused.items f b.refused.read a)
  both_refused (faults.Types at f) (faults.Conf g) a s b = absurd (no_conf a.items g a.read b)
  both_refused (faults.Types at f) (faults.Types place g) a s b =
      inl (ap end_at (one_fault (known (paths_of a.items)) (faults.Types at f) (faults.Types place g) (are_known (paths_of a.items) (Err (faults.Types at f)) a.refused)
      (known_for a.items b.items (Err (faults.Types place g)) a.read b.read b.refused)))
  both_refused (faults.Types at f) (faults.Settings g) a s b = absurd (no_types b.refused.items b.refused.types (faults.Types at f) b.refused.read b.refused.known a)
  both_refused (faults.Settings f) (faults.Conf g) a s b = absurd (no_conf a.items g a.read b)
  both_refused (faults.Settings f) (faults.Types at g) a s b = absurd (no_types a.items a.types (faults.Types at g) a.read a.known b)
  both_refused (faults.Settings f) (faults.Settings g) a s b =
      elim a.refused [
        | inl is ↦ inl (ap (λ (x : SettingsFault). end_at (faults.Settings x))
            (one_fault (settings_of a.items) f g is (set_for a.items b.refused.items (Err g) a.read b.refused.read b.first)))
        | inr big ↦ inr (record { items = a.items; read = a.read; big = big })
      ]
  both_refused (faults.Open at) other a s b = absurd s
  both_refused (faults.Read at) other a s b = absurd s
  both_refused faults.Memory other a s b = absurd s
  both_refused (faults.Conf f) (faults.Open at) a s b = absurd b
  both_refused (faults.Conf f) (faults.Read at) a s b = absurd b
  both_refused (faults.Conf f) faults.Memory a s b = absurd b
  both_refused (faults.Types place f) (faults.Open at) a s b = absurd b
  both_refused (faults.Types place f) (faults.Read at) a s b = absurd b
  both_refused (faults.Types place f) faults.Memory a s b = absurd b
  both_refused (faults.Settings f) (faults.Open at) a s b = absurd b
  both_refused (faults.Settings f) (faults.Read at) a s b = absurd b
  both_refused (faults.Settings f) faults.Memory a s b = absurd b

-- ---- by the file of a command

refused_not_accepted : (file : Option (List ℕ)) (files : Option (List FileTells)) (found : Opened) (fault : OpeningFault)
    → AreRefused file files fault → FilesComeTo file files (Ok found) → ⊥
refused_not_accepted None files found fault r a = r
refused_not_accepted (Some path) None found fault r a = r
refused_not_accepted (Some path) (Some told) found fault r a = never_accepted path told found fault a r

refused_so : (file : Option (List ℕ)) (files : Option (List FileTells)) (fault other : OpeningFault)
    → AreRefused file files fault → FilesComeTo file files (Err other) → IsOfText other → (end_at other ≡ end_at fault) ⊎ IsFree file files (end_at other)
refused_so None files fault other r b text = absurd r
refused_so (Some path) None fault other r b text = absurd r
refused_so (Some path) (Some told) fault other r b text = both_refused path told other fault b text r

free_where_accepted : (file : Option (List ℕ)) (files : Option (List FileTells)) (fault : OpeningFault)
    → AreAccepted file files → FilesComeTo file files (Err fault) → IsOfText fault → IsFree file files (end_at fault)
free_where_accepted None files fault a b text = absurd (subst IsOfText b text)
free_where_accepted (Some path) None fault a b text = absurd a
free_where_accepted (Some path) (Some told) fault a b text = accepted_free path told a.0 fault a.1 b text

-- ---- the ends of the work

heard_within : (heard : List ℕ) (before after : LinkTells) → IsWithin before after → Loses heard before.left after.left → length heard ≤ INPUT_LIMIT
heard_within heard before after w loses =
    let L : Option (List ℕ) → Option (List ℕ) → Type 0 = Loses heard in
    let S : Option (List ℕ) → Type 0 = λ o. L (Some w.bytes) o in
    let F : Option (List ℕ) → Type 0 = λ o. L o after.left in
    let same : w.bytes ≡ heard ++ w.rest = subst S w.has (subst F w.had loses) in
    omega (arith, w.few, ap length same, length-append heard w.rest)

lines_done : (K : Opening) (loads : List OnShelf → List Loaded) (shelf back : List OnShelf) (given : List Given) (begun : Pairs) (before after : LinkTells) (file : Option (List ℕ))
    (files : Option (List FileTells)) (end : End) → PromisesLines K loads shelf back given begun before after end → (Rose before.faults after.faults → ⊥) → IsWithin before after
    → (end ≡ ends.Done) ⊎ IsFree file files end
lines_done K loads shelf back given begun before after file files ends.Done s fine within = inl refl
lines_done K loads shelf back given begun before after file files ends.InputTooLong s fine within =
    let short : length s.heard ≤ INPUT_LIMIT = heard_within s.heard before after within s.exchanged.spoke.left in
    let long = s.long in
    absurd (omega (arith, short, long))
lines_done K loads shelf back given begun before after file files ends.LinkFault (inl h) fine within = absurd (fine h.rose)
lines_done K loads shelf back given begun before after file files ends.LinkFault (inr h) fine within = absurd (fine h.rose)
lines_done K loads shelf back given begun before after file files ends.Memory s fine within = inr tt
lines_done K loads shelf back given begun before after file files ends.Usage s fine within = absurd s
lines_done K loads shelf back given begun before after file files (ends.ConfFault fault) s fine within = absurd s
lines_done K loads shelf back given begun before after file files (ends.TypesFault path fault) s fine within = absurd s
lines_done K loads shelf back given begun before after file files (ends.SettingsFault fault) s fine within = absurd s
lines_done K loads shelf back given begun before after file files (ends.OpenFault path) s fine within = absurd s
lines_done K loads shelf back given begun before after file files (ends.ReadFault path) s fine within = absurd s

-- a test of a configuration
pub written : (items : List Item) (before after : LinkTells) (file : Option (List ℕ)) (files : Option (List FileTells)) (end : End)
    → Writes items before after end → (Rose before.faults after.faults → ⊥) → (end ≡ ends.Done) ⊎ IsFree file files end
written items before after file files ends.Done s fine = inl refl
written items before after file files ends.LinkFault s fine = absurd (fine s.rose)
written items before after file files ends.Memory s fine = inr tt
written items before after file files ends.InputTooLong s fine = absurd s
written items before after file files ends.Usage s fine = absurd s
written items before after file files (ends.ConfFault fault) s fine = absurd s
written items before after file files (ends.TypesFault path fault) s fine = absurd s
written items before after file files (ends.SettingsFault fault) s fine = absurd s
written items before after file files (ends.OpenFault path) s fine = absurd s
written items before after file files (ends.ReadFault path) s fine = absurd s

-- ---- which end has to come

module _ (words : List (List ℕ)) (files : Option (List FileTells)) where
  -- another command of the words is the same
  of_same : (of other : Command) (read : Result Opened OpeningFault) → command words ≡ Some of → command words ≡ Some other → FilesComeTo other.file files read → FilesComeTo of.file files read
  of_same of other read is so comes = subst (λ (c : Command). FilesComeTo c.file files read) (one_some (command words) other of so is) comes

  -- the fault of a text that is named is the one of the files, or a pattern that may be too big
  named : (of : Command) (fault other : OpeningFault) → command words ≡ Some of → AreRefused of.file files fault → HasFault words files other → IsOfText other
      → (end_at other ≡ end_at fault) ⊎ IsFree of.file files (end_at other)
  named of fault other is refused h text = refused_so of.file files fault other refused (of_same of h.of (Err other) is h.is h.comes) text

  -- no other is named of files that are accepted
  named_free : (of : Command) (other : OpeningFault) → command words ≡ Some of → AreAccepted of.file files → HasFault words files other → IsOfText other
      → IsFree of.file files (end_at other)
  named_free of other is accepted h text = free_where_accepted of.file files other accepted (of_same of h.of (Err other) is h.is h.comes) text

  fault_at : (end : End) (world now : WorldTells) → IsRefusedAt words files end → HasTried end world now
      → (of : Command) (fault : OpeningFault) → command words ≡ Some of → AreRefused of.file files fault → NoneFailed world now → (end ≡ end_at fault) ⊎ IsFree of.file files end
  fault_at ends.Usage world now why t of fault is refused none = absurd (never_some (command words) of why is)
  fault_at ends.Memory world now why t of fault is refused none = inr tt
  fault_at (ends.ConfFault f) world now why t of fault is refused none = named of fault (faults.Conf f) is refused why tt
  fault_at (ends.TypesFault path f) world now why t of fault is refused none = named of fault (faults.Types path f) is refused why tt
  fault_at (ends.SettingsFault f) world now why t of fault is refused none = named of fault (faults.Settings f) is refused why tt
  fault_at (ends.OpenFault path) world now why t of fault is refused none = absurd (none.faults t.faults.1)
  fault_at (ends.ReadFault path) world now why t of fault is refused none = absurd (none.reading_faults t.reading_faults.1)
  fault_at ends.Done world now why t of fault is refused none = absurd why
  fault_at ends.InputTooLong world now why t of fault is refused none = absurd why
  fault_at ends.LinkFault world now why t of fault is refused none = absurd why

  free_at : (end : End) (world now : WorldTells) → IsRefusedAt words files end → HasTried end world now
      → (of : Command) → command words ≡ Some of → AreAccepted of.file files → NoneFailed world now → IsFree of.file files end
  free_at ends.Usage world now why t of is accepted none = absurd (never_some (command words) of why is)
  free_at ends.Memory world now why t of is accepted none = tt
  free_at (ends.ConfFault f) world now why t of is accepted none = named_free of (faults.Conf f) is accepted why tt
  free_at (ends.TypesFault path f) world now why t of is accepted none = named_free of (faults.Types path f) is accepted why tt
  free_at (ends.SettingsFault f) world now why t of is accepted none = named_free of (faults.Settings f) is accepted why tt
  free_at (ends.OpenFault path) world now why t of is accepted none = absurd (none.faults t.faults.1)
  free_at (ends.ReadFault path) world now why t of is accepted none = absurd (none.reading_faults t.reading_faults.1)
  free_at ends.Done world now why t of is accepted none = absurd why
  free_at ends.InputTooLong world now why t of is accepted none = absurd why
  free_at ends.LinkFault world now why t of is accepted none = absurd why

  -- a run that was refused
  pub fault_refused : (end ended : End) (world now : WorldTells) → IsRefusedAt words files end → HasTried end world now → ended ≡ end
      → (of : Command) (fault : OpeningFault) → command words ≡ Some of → AreRefused of.file files fault → NoneFailed world now
      → (ended ≡ end_at fault) ⊎ IsFree of.file files ended
  fault_refused end ended world now why t same of fault is refused none =
      subst (λ (e : End). (e ≡ end_at fault) ⊎ IsFree of.file files e) (sym same) (fault_at end world now why t of fault is refused none)

  pub done_refused : (end ended : End) (world now : WorldTells) → IsRefusedAt words files end → HasTried end world now → ended ≡ end
      → (of : Command) → command words ≡ Some of → AreAccepted of.file files → NoneFailed world now → (ended ≡ ends.Done) ⊎ IsFree of.file files ended
  done_refused end ended world now why t same of is accepted none =
      inr (subst (λ (e : End). IsFree of.file files e) (sym same) (free_at end world now why t of is accepted none))

  -- no files with a fault of their text were accepted
  pub fault_accepted : (of : Command) (found : Opened) (end : End) → command words ≡ Some of → FilesComeTo of.file files (Ok found)
      → (other : Command) (fault : OpeningFault) → command words ≡ Some other → AreRefused other.file files fault → (end ≡ end_at fault) ⊎ IsFree other.file files end
  fault_accepted of found end is comes other fault so refused =
      absurd (refused_not_accepted other.file files found fault refused (of_same other of (Ok found) so is comes))

-- lines were served by a command of these words
pub done_served : (files : Option (List FileTells)) (asked : Option Command) (of : Command) (K : Opening) (loads : List OnShelf → List Loaded) (shelf back : List OnShelf) (given : List Given) (begun : Pairs)
    (before after : LinkTells) (end : End) → asked ≡ Some of → of.mode ≡ Lines → PromisesLines K loads shelf back given begun before after end
    → (other : Command) → asked ≡ Some other → (Rose before.faults after.faults → ⊥) → IsTaken other.mode before after → (end ≡ ends.Done) ⊎ IsFree other.file files end
done_served files asked of K loads shelf back given begun before after end is lines serves other so fine taken =
    let same : other.mode ≡ Lines = ap (λ (c : Command). c.mode) (one_some asked other of so is) ∙ lines in
    let T : Mode → Type 0 = λ m. IsTaken m before after in
    lines_done K loads shelf back given begun before after other.file files end serves fine (subst T same taken)
