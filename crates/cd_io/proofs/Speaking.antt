-- What was heard and said over calls on a link, one after another.
use Rattle.cd_io.proofs.Moves.{grows_more, grows_none, loses_more, loses_none}
use Rattle.cd_io.proofs.Rises.{later_rose}
use Rattle.cd_io.specs.Link.{HasEnded, LinkTells, SaidInPart, Says, SaysWhole, Spoke}
use Rattle.cd_io.specs.Told.{Loses}
use Rattle.cd_io.specs.declared.traits.Failed.{Failed}
use Rattle.std.proofs.Common.{Err, IfSome, List, None, Ok, OnErr, Option, Result, Some, [], ap, append-nil, arith, drop, false, is_err, length, length-drop, refl, subst, sym, take, true, ℕ, ◌++◌, ◌+◌, ◌<◌, ◌∙◌, ◌≡◌}
use Rattle.std.proofs.Math.Seq.{take-add}
use Rattle.std.proofs.lemmas.List.{take-append-drop}

-- no call
pub spoke_nothing : (link : LinkTells) → Spoke [] [] link link
spoke_nothing link = record {
  given = grows_none link.given;
  left = loses_none link.left;
  said = grows_none link.said;
  faults = search arith;
  quiets = search arith;
}

-- the calls of two parts of a dialogue, one after the other
pub spoke_then : (heard more text most : List ℕ) (first mid last : LinkTells)
    → Spoke heard text first mid → Spoke more most mid last → Spoke (heard ++ more) (text ++ most) first last
spoke_then heard more text most first mid last s t = record {
  given = grows_more heard more first.given mid.given last.given s.given t.given;
  left = loses_more heard more first.left mid.left last.left s.left t.left;
  said = grows_more text most first.said mid.said last.said s.said t.said;
  faults = let a = s.faults in let b = t.faults in omega arith;
  quiets = let a = s.quiets in let b = t.quiets in omega arith;
}

-- then a text was said, and nothing was heard
pub spoke_then_said : (heard text most : List ℕ) (first mid last : LinkTells)
    → Spoke heard text first mid → Spoke [] most mid last → Spoke heard (text ++ most) first last
spoke_then_said heard text most first mid last s t =
    let S : List ℕ → Type 0 = λ h. Spoke h (text ++ most) first last in
    subst S (append-nil heard) (spoke_then heard [] text most first mid last s t)

-- then bytes were heard, and nothing was said
pub spoke_then_heard : (heard more text : List ℕ) (first mid last : LinkTells)
    → Spoke heard text first mid → Spoke more [] mid last → Spoke (heard ++ more) text first last
spoke_then_heard heard more text first mid last s t =
    let S : List ℕ → Type 0 = λ w. Spoke (heard ++ more) w first last in
    subst S (append-nil text) (spoke_then heard more text [] first mid last s t)

-- then nothing was heard or said
pub spoke_then_nothing : (heard text : List ℕ) (first mid last : LinkTells)
    → Spoke heard text first mid → Spoke [] [] mid last → Spoke heard text first last
spoke_then_nothing heard text first mid last s t =
    let S : List ℕ → Type 0 = λ h. Spoke h text first last in
    subst S (append-nil heard) (spoke_then_heard heard [] text first mid last s t)

-- no call of `say`
pub said_nothing : (text : List ℕ) (link : LinkTells) → SaysWhole 0 false text link link
said_nothing text link = record { spoke = spoke_nothing link; given = refl; left = refl; quiets = refl; faults = refl }

-- one more piece of a text was said
pub said_more : (text rest : List ℕ) (said count : ℕ) (first mid last : LinkTells) → rest ≡ drop said text
    → SaysWhole said false text first mid → Says (Ok count) rest mid last → SaysWhole (said + count) false text first last
said_more text rest said count first mid last is s t =
    let S : List ℕ → Type 0 = λ w. Spoke [] w first last in
    let parts : take said text ++ take count rest ≡ take (said + count) text =
    ap (λ (w : List ℕ). take said text ++ take count w) is ∙ sym (take-add said count text) in
    record {
      spoke = subst S parts (spoke_then [] [] (take said text) (take count rest) first mid last s.spoke t.spoke);
      given = t.given ∙ s.given;
      left = t.left ∙ s.left;
      quiets = t.quiets ∙ s.quiets;
      faults = t.faults ∙ s.faults;
    }

-- then a call failed
pub said_until : (text rest : List ℕ) (said : ℕ) (failed : Failed) (first mid last : LinkTells)
    → SaysWhole said false text first mid → Says (Err failed) rest mid last → SaysWhole said true text first last
said_until text rest said failed first mid last s t = record {
  spoke = spoke_then_nothing [] (take said text) first mid last s.spoke t.spoke;
  given = t.given ∙ s.given;
  left = t.left ∙ s.left;
  quiets = t.quiets ∙ s.quiets;
  faults = (omega (arith, s.spoke.faults, t.spoke.faults), later_rose first.faults mid.faults last.faults s.spoke.faults t.faults.1);
}

-- the beginning of a text was said before the link failed
pub said_in_part : (text : List ℕ) (said : ℕ) (first last : LinkTells) → said < length text → SaysWhole said true text first last
    → SaidInPart text first last
said_in_part text said first last short s = record {
  written = take said text;
  unwritten = drop said text;
  parts = sym (take-append-drop said text);
  some = omega (arith, short, length-drop said text);
  spoke = s.spoke;
  rose = s.faults.1;
}

pub error_in_part : {A : Type 0} (answer : Result A Failed) (text : List ℕ) (said : ℕ) (first last : LinkTells)
    → OnErr answer (said < length text) → SaysWhole said (is_err answer) text first last → OnErr answer (SaidInPart text first last)
error_in_part (Ok x) text said first last short s = tt
error_in_part (Err failed) text said first last short s = said_in_part text said first last short s

-- where nothing was left, nothing is left after no byte was taken
pub nothing_left : (before after : Option (List ℕ)) → Loses [] before after
    → IfSome before (λ bytes. bytes ≡ []) → IfSome after (λ bytes. bytes ≡ [])
nothing_left before None moved empty = tt
nothing_left None (Some y) moved empty = absurd moved
nothing_left (Some x) (Some y) moved empty = sym moved ∙ empty

-- the peer's end stays, whatever is said
pub still_ended : (text : List ℕ) (before after : LinkTells) → Spoke [] text before after → HasEnded before → HasEnded after
still_ended text before after s ended = nothing_left before.left after.left s.left ended
