-- What a run promises of a link whose replies were gathered.
use Rattle.cd_history.specs.declared.given.Given.{Given}
use Rattle.cd_io.specs.Causes.{Rose}
use Rattle.cd_io.specs.Gathered.{Finishes}
use Rattle.cd_io.specs.Link.{LinkTells}
use Rattle.cd_io.specs.World.{FileTells}
use Rattle.cd_serve.specs.Promises.{HasRunCommand, IsUncalled, Promises}
use Rattle.cd_serve.specs.Started.{IsRefusedAt}
use Rattle.cd_serve.specs.Tells.{Pairs}
use Rattle.cd_serve.specs.declared.end.End.TheVariants as ends
use Rattle.cd_serve.specs.declared.end.End.{End}
use Rattle.cd_transcript.specs.LineRuns.{OnShelf}
use Rattle.std.specs.Prelude.{Bool, List, Option, false, true, ℕ, ◌≡◌, ◌⊎◌}

-- the end of a run whose last replies were said, or couldn't be; where it was refused there are none
abbrev pub end_after : Bool → End → End
end_after false end = end
end_after true ends.Done = ends.LinkFault
end_after true ends.InputTooLong = ends.LinkFault
end_after true ends.LinkFault = ends.LinkFault
end_after true ends.Memory = ends.LinkFault
end_after true end = end

module _ (words : List (List ℕ)) (files : Option (List FileTells))
    (shelf back : List OnShelf) (given : List Given) (begun : Pairs) (before after : LinkTells) where
  -- The run kept its promises to a link that was told all that it said. The link behind said all of that, up to an end
  -- which is unsaid where it failed late; and then the end is a fault of the link.
  pub record PromisesGathered (end : End) : Type 0 where
    pub run_end : End
    pub told : LinkTells
    pub run : Promises words files shelf back given begun before told run_end
    pub late : Bool
    pub finishes : Finishes late told after
    pub ends : end ≡ end_after late run_end

  -- the run was refused; no plug-in was called, and nothing was heard
  pub record WasUnserved (end : End) : Type 0 where
    pub why : IsRefusedAt words files end
    pub uncalled : IsUncalled shelf back given
    pub heard : after.given ≡ before.given
    pub left : after.left ≡ before.left

  -- Of the link itself: what the run promises at its end, all that it said was said; but where that is a fault of the
  -- link, its count of faults rose.
  abbrev pub PromisesLink : End → Type 0
  PromisesLink ends.LinkFault = Rose before.faults after.faults
  PromisesLink end = HasRunCommand words files shelf back given begun before after end ⊎ WasUnserved end
