-- A compiled pattern may move to another thread, and threads may share it: shown part by part, since one search through
-- all of it stops at its limit. What holds patterns cites `pattern_send`, with `declared_send` where it is large.
use Rattle.cd_pattern.specs.contracts.pattern.Pattern as pattern
use Rattle.cd_pattern.specs.contracts.pattern.Pattern.TheInside as inside
use Rattle.regex.specs.contracts.pattern.Pattern as inner
use Rattle.regex.specs.contracts.string.regex.Regex as regex
use Rattle.regex_dfa.specs.contracts.dfa.Dfa as dfa
use Rattle.regex_hir.proofs.hir.Hir.TheLaws.TheKnot as knot
use Rattle.regex_hir.specs.contracts.hir.Hir as hir
use Rattle.regex_literal.proofs.byte_set.ByteSet.TheSendSync as byte_set
use Rattle.regex_literal.specs.contracts.byte_set.ByteSet as set
use Rattle.regex_literal.specs.contracts.caseless.Caseless as caseless
use Rattle.regex_literal.specs.contracts.prefilter.Prefilter as prefilter
use Rattle.regex_meta.specs.contracts.plan.Plan as plan
use Rattle.regex_meta.specs.contracts.plan.Plans as plans
use Rattle.regex_meta.specs.contracts.program.Program as program
use Rattle.regex_meta.specs.contracts.signs.Signs as signs
use Rattle.std.proofs.Crossing.{crosses}
use Rattle.std.proofs.MapsCrossing as maps
use Rattle.std.specs.contracts.option.Option as option
use denote.Param.Send.{IsSend, IsSync, sendable, view_send, view_sync}
use denote.Param.SendFields.{declared_send, declared_sync}
use denote.Plain.{UInt}
use mir.Syntax.{w64}

hir_send : IsSend hir.the_row
hir_send = search (knot.send-Hir, sendable, crosses, maps.crosses) depth 60 fits 20000

dfa_send : IsSend dfa.the_row
dfa_send = search (sendable, crosses, maps.crosses) depth 60 fits 20000

caseless_send : IsSend caseless.the_row
caseless_send = search (sendable, crosses, maps.crosses) depth 60 fits 20000

prefilter_send : IsSend prefilter.the_row
prefilter_send = search (sendable, crosses, maps.crosses) depth 60 fits 20000

plan_send : IsSend plan.the_row
plan_send = search (knot.send-Hir, prefilter_send, sendable, crosses, maps.crosses) depth 60 fits 20000

plans_send : IsSend plans.the_row
plans_send = search (plan_send, sendable, crosses, maps.crosses) depth 60 fits 20000

signs_send : IsSend signs.the_row
signs_send = search (knot.send-Hir, caseless_send, sendable, crosses, maps.crosses) depth 60 fits 20000

first_send : IsSend (option.the_row set.the_row)
first_send = search (byte_set.the_send, sendable, crosses) depth 20

least_send : IsSend (option.the_row (UInt w64))
least_send = search (sendable, crosses) depth 20

program_send : IsSend program.the_row
program_send = declared_send program.the_type
    (hir_send, (dfa_send, (plans_send, (search (signs_send, sendable, crosses) depth 20, (first_send, (search sendable, (search sendable, (least_send, tt))))))))

inner_send : IsSend inner.the_row
inner_send = declared_send inner.the_type
    (search (maps.String-send, sendable), (search sendable depth 20, (search (maps.String-send, sendable, crosses) depth 20, (program_send, tt))))

regex_send : IsSend regex.the_row
regex_send = declared_send regex.the_type (inner_send, tt)

pub pattern_send : IsSend pattern.the_row
pattern_send = view_send _ _ _ _ _ (declared_send inside.the_type (regex_send, (search (sendable, crosses, maps.crosses) depth 60 fits 20000, tt)))

hir_sync : IsSync hir.the_row
hir_sync = search (knot.sync-Hir, sendable, crosses, maps.crosses) depth 60 fits 20000

dfa_sync : IsSync dfa.the_row
dfa_sync = search (sendable, crosses, maps.crosses) depth 60 fits 20000

caseless_sync : IsSync caseless.the_row
caseless_sync = search (sendable, crosses, maps.crosses) depth 60 fits 20000

prefilter_sync : IsSync prefilter.the_row
prefilter_sync = search (sendable, crosses, maps.crosses) depth 60 fits 20000

plan_sync : IsSync plan.the_row
plan_sync = search (knot.sync-Hir, prefilter_sync, sendable, crosses, maps.crosses) depth 60 fits 20000

plans_sync : IsSync plans.the_row
plans_sync = search (plan_sync, sendable, crosses, maps.crosses) depth 60 fits 20000

signs_sync : IsSync signs.the_row
signs_sync = search (knot.sync-Hir, caseless_sync, sendable, crosses, maps.crosses) depth 60 fits 20000

first_sync : IsSync (option.the_row set.the_row)
first_sync = search (byte_set.the_sync, sendable, crosses) depth 20

least_sync : IsSync (option.the_row (UInt w64))
least_sync = search (sendable, crosses) depth 20

program_sync : IsSync program.the_row
program_sync = declared_sync program.the_type
    (hir_sync, (dfa_sync, (plans_sync, (search (signs_sync, sendable, crosses) depth 20, (first_sync, (search sendable, (search sendable, (least_sync, tt))))))))

inner_sync : IsSync inner.the_row
inner_sync = declared_sync inner.the_type
    (search (maps.String-sync, sendable), (search sendable depth 20, (search (maps.String-sync, sendable, crosses) depth 20, (program_sync, tt))))

regex_sync : IsSync regex.the_row
regex_sync = declared_sync regex.the_type (inner_sync, tt)

pub pattern_sync : IsSync pattern.the_row
pattern_sync = view_sync _ _ _ _ _ (declared_sync inside.the_type (regex_sync, (search (sendable, crosses, maps.crosses) depth 60 fits 20000, tt)))
