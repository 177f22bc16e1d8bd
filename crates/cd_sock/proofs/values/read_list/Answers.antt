use Rattle.cd_sock.proofs.Readings.{no_list, whole_list}
use Rattle.cd_sock.proofs.values.read_list.Goals as goal
use Rattle.cd_sock.specs.Meaning.{list_at}
use Rattle.cd_sock.specs.Values.{is_colon, reading, texts_in, time_at, time_text, value_texts}
use Rattle.std.proofs.Common.{List, ap, drop, option_copied, sym, ℕ, ◌∙◌, ◌≡◌}
use Rattle.std.specs.List.{slice_split}

pub returns-in_default-2 : goal.returns-in_default-2
returns-in_default-2 c =
    let texts : value_texts c.args.word.now.text ≡ texts_in (option_copied c.at_colon.result.1)
    = ap (λ (text : List ℕ). drop 1 (slice_split is_colon text)) (sym c.text.ensures) ∙ ap (drop 1) c.at_colon.ensures.texts in
    no_list c.args.sources.now c.args.word.now (list_at c.args.now c.args.interval c.args.id (reading c.args.sources.now c.args.word.now)) _ texts (sym c.in_default-2.is ∙ c.in_ok-values.ensures)

pub returns : goal.returns
returns c =
    let texts : value_texts c.args.word.now.text ≡ texts_in (option_copied c.at_colon.result.1)
    = ap (λ (text : List ℕ). drop 1 (slice_split is_colon text)) (sym c.text.ensures) ∙ ap (drop 1) c.at_colon.ensures.texts in
    whole_list c.args.sources.now c.args.word.now c.args.id c.args.now c.args.interval c.in-Some.time c.in-Some-2.values _ texts
    (c.in-Some.ensures ∙ ap (time_at c.args.now) c.at_colon.ensures.front ∙ ap (λ (text : List ℕ). time_at c.args.now (time_text text)) c.text.ensures)
    (sym c.in-Some-2.is ∙ c.in_ok-values.ensures)
