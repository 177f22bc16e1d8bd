use Rattle.cd_text.proofs.OpenWords.{fits, part_some, read_to_blank, read_to_end, reads_more, used_more}
use Rattle.cd_text.proofs.cutter.read_on.Goals as goal
use Rattle.cd_text.specs.Cutting.{part_adds}
use Rattle.cd_text.specs.declared.cutter.OpenWord.{OpenWord}
use Rattle.std.proofs.Common.{[], ap, arith, length, map-id, sym, unwrap_or, ℕ, ◌+◌, ◌∙◌}
use Rattle.std.proofs.lemmas.Iterator.Consumers.{YieldsList-end, YieldsList-so_far, YieldsList-turn}
use Rattle.std.proofs.lemmas.Iterator.{YieldsList-from_chars}

pub overflow_add-word : goal.overflow_add-word
overflow_add-word c =
    let list = YieldsList-from_chars c.args.text.now c.utf8.text cc in
    let t = YieldsList-turn list c.loop-c.yielded _ c.loop-c.yielded_by _ _ c.in-Some.c c.in-Some.is c.next.ensures.steps in
    let front = YieldsList-so_far list c.loop-c.yielded _ c.loop-c.yielded_by in
    let h = fits c.args.text.now c.loop-c.yielded (length c.loop-c.yielded) c.in-Some.c c.loop-c.word.used c.utf8.text t.0 t.1 (sym (map-id c.loop-c.yielded) ∙ front) c.loop-c.invariant.used in
    let value = c.len_utf8.ensures.value in
    omega (arith, h, value)

pub returns-in-Blank : goal.returns-in-Blank
returns-in-Blank c =
    let list = YieldsList-from_chars c.args.text.now c.utf8.text cc in
    let t = YieldsList-turn list c.loop-c.yielded _ c.loop-c.yielded_by _ _ c.in-Some.c c.in-Some.is c.next.ensures.steps in
    let front = YieldsList-so_far list c.loop-c.yielded _ c.loop-c.yielded_by in
    read_to_blank c.args.text.now c.loop-c.yielded (length c.loop-c.yielded) c.in-Some.c c.loop-c.word c.utf8.text t.0 t.1 (sym (map-id c.loop-c.yielded) ∙ front)
    c.loop-c.invariant.used c.loop-c.invariant.reads (sym c.in-Blank.ensures)

pub loop-c-preserved : goal.loop-c-preserved
loop-c-preserved c =
    let new : OpenWord = record { text = c.add.new.text; used = c.loop-c.word.used + c.len_utf8.result; quoting = c.switched-word.result } in
    let width = ap (λ (n : ℕ). c.loop-c.word.used + n) c.len_utf8.ensures.value in record {
      used = used_more c.loop-c.yielded c.in-Some.c c.loop-c.word.used _ c.loop-c.invariant.used width;
      reads = reads_more c.loop-c.word new c.loop-c.yielded c.in-Some.c (unwrap_or (part_adds c.part_of-part.result c.in-Some.c) []) c.loop-c.invariant.reads
          (sym c.part_of-part.ensures ∙ part_some c.part_of-part.result c.in-Some.c c.in_default.not-Blank) c.in_ok-add.ensures width c.switched-word.ensures;
    }

pub returns : goal.returns
returns c =
    let end = YieldsList-end (YieldsList-from_chars c.args.text.now c.utf8.text cc) c.loop-c.yielded _ c.loop-c.yielded_by _ _ c.in-None.is c.next.ensures.steps in
    read_to_end c.args.text.now c.loop-c.yielded c.loop-c.word c.utf8.text (sym (map-id c.loop-c.yielded) ∙ end.0) c.loop-c.invariant.used c.loop-c.invariant.reads
