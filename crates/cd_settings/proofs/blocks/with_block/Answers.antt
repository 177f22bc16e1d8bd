use Rattle.std.proofs.Common.{List, [], ap, bytes_eq, position, sym, ℕ, ◌++◌, ◌∙◌, ◌∷◌}
use Rattle.cd_settings.specs.TopLevel.{with_block}
use Rattle.cd_settings.specs.declared.blocks.Block.{Block}
use Rattle.cd_settings.proofs.JoinedBlocks.{at_end, at_place}
use Rattle.cd_settings.proofs.blocks.with_block.Goals as goal

pub returns-in-Some : goal.returns-in-Some
returns-in-Some c =
    let name : List ℕ = c.args.name.now in
    let text : List ℕ = c.args.text in
    c.from_vec.ensures
    ∙ at_place c.into_vec-blocks.result.items name text c.push.new.self c.in-Some.i c.index_mut.result.now c.index_mut.result.now
    (sym c.in-Some.is ∙ c.place_of.ensures ∙ ap (λ (xs : List Block). position (λ block. bytes_eq block.name name) xs) c.as_slice.ensures.value)
    c.index_mut.ensures.value
    (c.in_ok-push.ensures.ok ∙ ap (λ (t : List ℕ). c.index_mut.result.now.text ++ t) c.as_str.ensures)
    ∙ ap (λ (blocks : List Block). with_block blocks name text) c.into_vec-blocks.ensures

pub returns : goal.returns
returns c =
    let name : List ℕ = c.args.name.now in
    let text : List ℕ = c.args.text in
    c.from_vec-2.ensures ∙ c.in_ok-push-2.ensures.items
    ∙ ap (λ (n : List ℕ). c.into_vec-blocks.result.items ++ record { name = n; text = text } ∷ []) c.in_ok-name.ensures
    ∙ at_end c.into_vec-blocks.result.items name text
    (sym c.in_default.is ∙ c.place_of.ensures ∙ ap (λ (xs : List Block). position (λ block. bytes_eq block.name name) xs) c.as_slice.ensures.value)
    ∙ ap (λ (blocks : List Block). with_block blocks name text) c.into_vec-blocks.ensures
