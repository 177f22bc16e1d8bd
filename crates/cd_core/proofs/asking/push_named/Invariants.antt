use Rattle.cd_core.proofs.asking.push_named.Given as goal
use Rattle.cd_registry.specs.declared.calls.Call.TheVariants as calls
use Rattle.std.proofs.Common.{List, Option, Some, map, take, ℕ, ◌++◌, ◌≡◌}

abbrev pub invariant-loop-name : goal.invariant-loop-name
invariant-loop-name l =
    l.posts.items ≡ l.fn.posts.items ++ map (λ (name : Option (List ℕ)). record { reg = l.reg; call = calls.Flush l.number l.timeout name }) (map Some (take l.name-index l.names))
