-- Calls on a link none of which failed or was quiet, one after another.
use Rattle.cd_dialogue.specs.Exchanges.{Exchanged}
use Rattle.cd_io.proofs.Speaking.{spoke_nothing, spoke_then}
use Rattle.cd_io.specs.Link.{LinkTells}
use Rattle.std.proofs.Common.{List, [], refl, subst, ℕ, ◌++◌, ◌∙◌}
use Rattle.std.proofs.lemmas.List.{append-nil}

pub exchanged_nothing : (link : LinkTells) → Exchanged [] [] link link
exchanged_nothing link = record { spoke = spoke_nothing link; faults = refl; quiets = refl }

pub exchanged_then : (heard more text most : List ℕ) (first mid last : LinkTells)
    → Exchanged heard text first mid → Exchanged more most mid last → Exchanged (heard ++ more) (text ++ most) first last
exchanged_then heard more text most first mid last s t = record {
  spoke = spoke_then heard more text most first mid last s.spoke t.spoke;
  faults = t.faults ∙ s.faults;
  quiets = t.quiets ∙ s.quiets;
}

-- bytes were heard, and then only a text was said
pub exchanged_then_said : (heard text : List ℕ) (first mid last : LinkTells)
    → Exchanged heard [] first mid → Exchanged [] text mid last → Exchanged heard text first last
exchanged_then_said heard text first mid last s t =
    let E : List ℕ → Type 0 = λ h. Exchanged h text first last in
    subst E (append-nil heard) (exchanged_then heard [] [] text first mid last s t)
