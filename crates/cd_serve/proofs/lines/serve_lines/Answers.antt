use Rattle.cd_core.specs.Seen.{seen}
use Rattle.cd_serve.proofs.Promises.{promised_nothing, unmoved}
use Rattle.cd_serve.proofs.Settled.{can_run, loaded_so}
use Rattle.cd_serve.proofs.lines.serve_lines.Goals as goal
use Rattle.cd_serve.specs.Shelf.{on_shelf}
use Rattle.cd_serve.specs.Started.{loaded_of, opening_of}
use Rattle.cd_serve.specs.Working.Loading.{plugs_loaded, with_blocks}
use Rattle.cd_settings.specs.declared.blocks.Block.{Block}
use Rattle.std.proofs.Common.{List, ap, arith, refl, sym, ◌<◌, ◌∙◌}

pub keyed-requires : goal.keyed-requires
keyed-requires g c = λ some.
    let high : 0 < c.args.found.settings.globals.high = omega (arith, some) in
    c.requires.bounded.limits.not_crossed high

pub serve_ready-requires : goal.serve_ready-requires
serve_ready-requires g c =
    let tells = g.P.TellsCalls.plug_tells in
    let shelf = on_shelf tells c.args.handed.plugs.items in
    let bounds = c.type_bounds in
    let runs = can_run tells c.args.file.now c.args.found c.args.handed.plugs.items c.args.handed.probes.items (seen tells g.Q.TellsReadings.probe_tells c.in-Ok.core) c.in-Ok-made_ready.ready
    c.requires.loadable c.requires.bounded c.in-Ok.ensures c.in-Ok-made_ready.ensures.ok in (
      bounds.send-C,
      (
        bounds.send-D,
        (
          bounds.send-L,
          (
            bounds.send-P,
            (
              bounds.send-Q,
              (opening_of c.args.found, shelf, plugs_loaded c.args.file.now c.args.found.settings.loaded shelf, runs),
            ),
          ),
        ),
      ),
    )

pub returns-in_default-clause-serves : goal.returns-in_default-clause-serves
returns-in_default-clause-serves g c =
    promised_nothing _ _ _ _ _ _ _ _ _ (unmoved _ _ _ (ap (on_shelf g.P.TellsCalls.plug_tells) c.uncalled.ensures.plugs)) refl c.uncalled.ensures.end

pub returns-in-Err-clause-serves : goal.returns-in-Err-clause-serves
returns-in-Err-clause-serves g c =
    promised_nothing _ _ _ _ _ _ _ _ _
    (unmoved _ _ _ (ap (on_shelf g.P.TellsCalls.plug_tells) (c.uncalled-in-Err.ensures.plugs ∙ c.in-Err.ensures.err))) refl c.uncalled-in-Err.ensures.end

pub returns-clause-serves : goal.returns-clause-serves
returns-clause-serves g c =
    let tells = g.P.TellsCalls.plug_tells in
    let shelf = on_shelf tells c.args.handed.plugs.items in
    let plugs = plugs_loaded c.args.file.now c.args.found.settings.loaded shelf in
    let blocks = ap (λ (bs : List Block). with_blocks bs plugs) (sym c.as_slice.ensures) in
    c.serve_ready.ensures.serves (opening_of c.args.found) (loaded_of c.args.file.now c.args.found.settings) shelf plugs
    (loaded_so c.args.file.now c.args.found.settings shelf c.requires.blocks ∙ blocks) c.new.ensures
    (can_run tells c.args.file.now c.args.found c.args.handed.plugs.items c.args.handed.probes.items (seen tells g.Q.TellsReadings.probe_tells c.in-Ok.core) c.in-Ok-made_ready.ready
    c.requires.loadable c.requires.bounded c.in-Ok.ensures c.in-Ok-made_ready.ensures.ok)

pub returns-clause-back : goal.returns-clause-back
returns-clause-back g c =
    let tells = g.P.TellsCalls.plug_tells in
    let shelf = on_shelf tells c.args.handed.plugs.items in
    c.serve_ready.ensures.back (opening_of c.args.found) shelf (plugs_loaded c.args.file.now c.args.found.settings.loaded shelf)
    (can_run tells c.args.file.now c.args.found c.args.handed.plugs.items c.args.handed.probes.items (seen tells g.Q.TellsReadings.probe_tells c.in-Ok.core) c.in-Ok-made_ready.ready
    c.requires.loadable c.requires.bounded c.in-Ok.ensures c.in-Ok-made_ready.ensures.ok)
