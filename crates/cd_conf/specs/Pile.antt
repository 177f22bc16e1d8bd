-- What has been read, with sections that are still open.
use Rattle.cd_conf.specs.Position.{Position}
use Rattle.cd_conf.specs.Statements.{Open, Stand, StartOf, Statement, stand}
use Rattle.cd_conf.specs.Tree.{statements_of_items}
use Rattle.cd_conf.specs.declared.fault.ConfFault.{ConfFault}
use Rattle.cd_conf.specs.declared.pile.OpenSection.{OpenSection}
use Rattle.cd_conf.specs.declared.pile.Pile.{Pile}
use Rattle.std.specs.List.{flat_map}
use Rattle.std.specs.Prelude.{List, Ok, Option, Result, Some, [], map, reverse, ℕ, ◌++◌, ◌∷◌, ◌≡◌}

abbrev pub open_section : List ℕ → ℕ → Open
open_section key line = record { key = key; line = line }

-- what stands before a section at its level, and its start
abbrev pub front_of : OpenSection → List Statement
front_of s = statements_of_items s.before ++ StartOf s.key s.args s.line ∷ []

-- the statements that were read
abbrev pub statements_in : Pile → List Statement
statements_in p = flat_map front_of p.sections.items ++ statements_of_items p.here

abbrev pub open_of : OpenSection → Open
open_of s = open_section s.key s.line

-- the sections that are open, the innermost first
abbrev pub opens_in : Pile → List Open
opens_in p = reverse (map open_of p.sections.items)

-- a statement was read, and these sections are open behind it
abbrev pub Reads : Pile → Pile → Statement → List Open → Type 0
Reads old new statement further =
    (statements_in new ≡ statements_in old ++ statement ∷ []) × (opens_in new ≡ further)

-- what a line says was read, and the next line stands there
abbrev pub Took : Pile → Pile → Result (Option (List Statement × Stand)) ConfFault → Position → Type 0
Took old new line next =
    (more : List Statement) × (line ≡ Ok (Some (more, stand (opens_in new) next)))
    × (statements_in new ≡ statements_in old ++ more)
