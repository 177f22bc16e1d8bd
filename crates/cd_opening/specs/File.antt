-- What reading the file at a path gives, by the text of its next opening where the world tells it.
use Rattle.cd_conf.specs.Statements.{statements_of_text}
use Rattle.cd_conf.specs.Tree.{IsTreeOf}
use Rattle.cd_conf.specs.declared.fault.ConfFault.{ConfFault}
use Rattle.cd_conf.specs.declared.item.Item.{Item}
use Rattle.cd_io.specs.Source.{SourceTells}
use Rattle.cd_io.specs.World.{FileTells, after_opening, opening}
use Rattle.cd_opening.specs.declared.fault.OpeningFault.TheVariants as faults
use Rattle.cd_opening.specs.declared.fault.OpeningFault.{OpeningFault}
use Rattle.cd_types.specs.Text.{sets_of_text}
use Rattle.cd_types.specs.declared.fault.TypesFault.{TypesFault}
use Rattle.cd_value.specs.declared.data.DataSet.{DataSet}
use Rattle.std.specs.Option.{option_map}
use Rattle.std.specs.Prelude.{Err, IfSome, List, Ok, Option, Result, Some, ℕ, ◌≡◌}

module _ (path : List ℕ) (files : Option (List FileTells)) where
  -- the text of the path's next opening, where the world tells its files
  abbrev pub IsNext : List ℕ → Type 0
  IsNext text = IfSome files (λ told. opening path told ≡ Some text)

  -- these are the items of its text
  pub record HasItems (items : List Item) : Type 0 where
    pub text : List ℕ
    pub next : IsNext text
    pub tree : IsTreeOf text items

  -- its text is no configuration, and this is the first fault
  pub record HasConfFault (fault : ConfFault) : Type 0 where
    pub text : List ℕ
    pub next : IsNext text
    pub refused : statements_of_text text ≡ Err fault

  abbrev pub ReadsNoItems : OpeningFault → Type 0
  ReadsNoItems (faults.Conf fault) = HasConfFault fault
  ReadsNoItems (faults.Open at) = at ≡ path
  ReadsNoItems (faults.Read at) = at ≡ path
  ReadsNoItems faults.Memory = Unit {0}
  ReadsNoItems _ = ⊥

  -- a configuration file gives its items, or why not
  abbrev pub ReadsItems : Result (List Item) OpeningFault → Type 0
  ReadsItems (Ok items) = HasItems items
  ReadsItems (Err fault) = ReadsNoItems fault

  -- its text gives these data sets, or has this first fault
  pub record HasSets (read : Result (List DataSet) TypesFault) : Type 0 where
    pub text : List ℕ
    pub next : IsNext text
    pub sets : sets_of_text text ≡ read

  abbrev pub ReadsNoSets : OpeningFault → Type 0
  ReadsNoSets (faults.Types at fault) = (at ≡ path) × HasSets (Err fault)
  ReadsNoSets (faults.Open at) = at ≡ path
  ReadsNoSets (faults.Read at) = at ≡ path
  ReadsNoSets faults.Memory = Unit {0}
  ReadsNoSets _ = ⊥

  -- a types file gives its data sets, or why not
  abbrev pub ReadsSets : Result (List DataSet) OpeningFault → Type 0
  ReadsSets (Ok sets) = HasSets (Ok sets)
  ReadsSets (Err fault) = ReadsNoSets fault

-- The files that the world has left behind the reading of a path: an opening that failed opens nothing. Where memory is
-- lacking nothing is said.
abbrev pub Leaves : {A : Type 0} → List ℕ → (files after : Option (List FileTells)) → Result A OpeningFault → Type 0
Leaves path files after (Ok x) = after ≡ option_map (after_opening path) files
Leaves path files after (Err (faults.Open at)) = after ≡ files
Leaves path files after (Err faults.Memory) = Unit {0}
Leaves path files after (Err _) = after ≡ option_map (after_opening path) files

-- a source that was opened has the text of the path's next opening left, and no fault
pub record IsOpenedSource (path : List ℕ) (source : SourceTells)
    (files : Option (List FileTells)) : Type 0 where
  pub left : option_map Some source.left ≡ option_map (opening path) files
  pub faults : source.faults ≡ 0

abbrev pub IsNotOpened : List ℕ → OpeningFault → Type 0
IsNotOpened path (faults.Open at) = at ≡ path
IsNotOpened path faults.Memory = Unit {0}
IsNotOpened path _ = ⊥

-- a file is opened and keeps its path, or not
abbrev pub Begins : {S : Type 0} → (S → SourceTells) → List ℕ → Result (List ℕ × S) OpeningFault
    → Option (List FileTells) → Type 0
Begins tells path (Ok opened) files = (opened.0 ≡ path) × IsOpenedSource path (tells opened.1) files
Begins tells path (Err fault) files = IsNotOpened path fault
