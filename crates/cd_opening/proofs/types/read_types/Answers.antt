use Rattle.cd_io.specs.World.{after_opening}
use Rattle.cd_opening.proofs.Reading.{done_at, ends_at, goes_on}
use Rattle.cd_opening.proofs.types.read_types.Goals as goal
use Rattle.cd_opening.specs.File.{HasSets, Leaves, ReadsNoSets}
use Rattle.cd_value.specs.declared.data.DataSet.{DataSet}
use Rattle.std.proofs.Common.{Err, List, Ok, arith, option_map, subst, ℕ, ◌∙◌, ◌≡◌}
use Rattle.std.proofs.lemmas.Result.{err_from_is_err_and}

pub returns-in_err-later-clause-reads : goal.returns-in_err-later-clause-reads
returns-in_err-later-clause-reads g c =
    let p = err_from_is_err_and c.from_residual.result c.from_residual.ensures.1 in
    rw (p.1, p.2)
    (ends_at c.args.paths.now c.loop-path.path-index c.path-item.result c.loop-path.types _ (g.W.World.world_tells c.loop-path.world).files (g.W.World.world_tells c.read_sets.new.world).files c.in_err-later.field-0.0 (omega arith) c.path-item.is
    (subst (λ (x : List ℕ). ReadsNoSets x (g.W.World.world_tells c.loop-path.world).files c.in_err-later.field-0.0) c.as_str.ensures c.in_err-later.ensures.reads)
    (subst (λ (x : List ℕ). Leaves {A = List DataSet} x (g.W.World.world_tells c.loop-path.world).files (g.W.World.world_tells c.read_sets.new.world).files (Err c.in_err-later.field-0.0)) c.as_str.ensures c.in_err-later.ensures.files)
    c.loop-path.invariant.reads)

pub returns-clause-reads : goal.returns-clause-reads
returns-clause-reads g c =
    done_at c.args.paths.now c.loop-path.path-index c.loop-path.types c.in_ok-or_builtin.field-0 _ _ (omega arith) c.in_ok-or_builtin.ensures c.loop-path.invariant.reads

pub loop-path-preserved : goal.loop-path-preserved
loop-path-preserved g c = record {
  reads = goes_on c.args.paths.now c.loop-path.path-index c.path-item.result c.loop-path.types c.in_ok-types.types c.in_ok-later.later _ (g.W.World.world_tells c.loop-path.world).files (g.W.World.world_tells c.read_sets.new.world).files (omega arith) c.path-item.is
      (subst (λ (x : List ℕ). HasSets x (g.W.World.world_tells c.loop-path.world).files (Ok c.in_ok-later.later)) c.as_str.ensures c.in_ok-later.ensures.reads)
      (subst (λ (x : List ℕ). (g.W.World.world_tells c.read_sets.new.world).files ≡ option_map (after_opening x) (g.W.World.world_tells c.loop-path.world).files) c.as_str.ensures c.in_ok-later.ensures.files)
      c.in_ok-types.ensures c.loop-path.invariant.reads;
  faults = c.in_ok-later.ensures.tries.faults ∙ c.loop-path.invariant.faults;
  reading_faults = c.in_ok-later.ensures.tries.reading_faults ∙ c.loop-path.invariant.reading_faults;
  clock = c.in_ok-later.ensures.clock ∙ c.loop-path.invariant.clock;
  dice = c.in_ok-later.ensures.dice ∙ c.loop-path.invariant.dice;
}
