use Rattle.cd_sock.proofs.reply.print_rates.Given as goal
use Rattle.cd_sock.specs.Replies.{rate_lines, values_found}
use Rattle.std.proofs.Common.{drop, length, string_bytes, ◌++◌, ◌≡◌}

-- the text so far, and the lines that are still to come
abbrev pub invariant-loop-i : goal.invariant-loop-i
invariant-loop-i l = string_bytes l.text ++ rate_lines (drop l.i l.names) (drop l.i l.rates) ≡ values_found (length l.names) ++ rate_lines l.names l.rates
