use Rattle.cd_text.proofs.Quotes.{closed, one_more, quoted_is_one_word}
use Rattle.cd_text.proofs.quote.quoted.Goals as goal
use Rattle.cd_text.specs.Quoting.{quoted_of}
use Rattle.std.proofs.Common.{map-id, sym, ◌∙◌, ◌≡◌}
use Rattle.std.proofs.lemmas.Iterator.Consumers.{YieldsList-end}
use Rattle.std.proofs.lemmas.Iterator.{YieldsList-from_chars}
use Rattle.std.specs.String.{string_bytes}

pub loop-c-preserved : goal.loop-c-preserved
loop-c-preserved c =
    c.in_ok-push_escaped.ensures ∙ one_more (string_bytes c.loop-c.text) c.loop-c.yielded c.in-Some.c c.loop-c.invariant

pub returns-clause-text : goal.returns-clause-text
returns-clause-text c =
    let end = YieldsList-end (YieldsList-from_chars c.args.content.now c.utf8.content cc) c.loop-c.yielded _ c.loop-c.yielded_by _ _ c.in-None.is c.next.ensures.steps in
    c.from_string.ensures ∙ c.in_ok-push-2.ensures.bytes
    ∙ closed (string_bytes c.loop-c.text) c.loop-c.yielded c.args.content.now c.loop-c.invariant (sym (map-id c.loop-c.yielded) ∙ end.0)

pub returns-clause-one_word : goal.returns-clause-one_word
returns-clause-one_word c =
    let end = YieldsList-end (YieldsList-from_chars c.args.content.now c.utf8.content cc) c.loop-c.yielded _ c.loop-c.yielded_by _ _ c.in-None.is c.next.ensures.steps in
    let text : c.from_string.result ≡ quoted_of c.args.content.now
    = c.from_string.ensures ∙ c.in_ok-push-2.ensures.bytes
    ∙ closed (string_bytes c.loop-c.text) c.loop-c.yielded c.args.content.now c.loop-c.invariant (sym (map-id c.loop-c.yielded) ∙ end.0) in
    rw text (quoted_is_one_word c.args.content.now c.utf8.content)
