-- A run over a link that gathers replies, as the link behind sees it.
use Rattle.cd_command.specs.declared.command.Mode.TheVariants.{Lines, Test}
use Rattle.cd_command.specs.declared.command.Mode.{Mode}
use Rattle.cd_conf.specs.declared.item.Item.{Item}
use Rattle.cd_daemon.specs.declared.Opening.{Opening}
use Rattle.cd_dialogue.specs.Exchanges.{Exchanged}
use Rattle.cd_dialogue.specs.Inputs.{AreFirstOf, HearingFailed, IsOver, MemoryLacked}
use Rattle.cd_history.specs.declared.given.Given.{Given}
use Rattle.cd_io.proofs.Moves.{grows_none, loses_none}
use Rattle.cd_io.proofs.Rises.{later_rose, rose_later}
use Rattle.cd_io.proofs.Speaking.{spoke_then_nothing}
use Rattle.cd_io.specs.Causes.{Rose}
use Rattle.cd_io.specs.Gathered.{Finishes, gathered}
use Rattle.cd_io.specs.Gathering.{kept_of}
use Rattle.cd_io.specs.Link.{LinkTells, Spoke}
use Rattle.cd_io.specs.Told.{Grows, Loses}
use Rattle.cd_io.specs.World.{FileTells, WorldTells}
use Rattle.cd_io.specs.declared.gathering.Gathering.{Gathering}
use Rattle.cd_opening.specs.declared.opening.Opened.{Opened}
use Rattle.cd_program.specs.Gathered.{PromisesGathered, PromisesLink, WasUnserved, end_after}
use Rattle.cd_serve.specs.Promises.{Does, HasBegun, HasBegunUnasked, HasRunCommand, IsTaken, Promises, PromisesLines, WasRefused, Writes}
use Rattle.cd_serve.specs.Shelf.{places}
use Rattle.cd_serve.specs.Started.{HasTried}
use Rattle.cd_serve.specs.Tells.{Pairs}
use Rattle.cd_serve.specs.declared.end.End.TheVariants as ends
use Rattle.cd_serve.specs.declared.end.End.{End}
use Rattle.cd_serve.specs.declared.program.TheConstants.{INPUT_LIMIT}
use Rattle.cd_sock.specs.Lines.{Cut}
use Rattle.cd_transcript.specs.LineRuns.{Loaded, OnShelf}
use Rattle.std.proofs.Common.{Bool, Err, List, None, Ok, OnErr, Option, Result, Some, [], ap, append-nil, arith, false, inl, inr, is_err, length, refl, subst, sym, true, ℕ, ◌++◌, ◌<◌, ◌∙◌, ◌≡◌, ◌≤◌, ◌⊎◌}
use Rattle.std.specs.Option.{option_map, option_to_list}

-- where nothing is kept, a gathering link tells what the link behind tells
pub gathered_none : (link : LinkTells) → gathered [] link ≡ link
gathered_none link =
    ap (λ (said : Option (List ℕ)). record { given = link.given; left = link.left; said = said; faults = link.faults; quiets = link.quiets })
    (same link.said)
  where
    same : (told : Option (List ℕ)) → option_map (λ said. said ++ []) told ≡ told
    same None = refl
    same (Some said) = ap Some (append-nil said)

grows_same : (old new : Option (List ℕ)) → new ≡ old → Grows [] old new
grows_same old new is = let P : Option (List ℕ) → Type 0 = λ o. Grows [] old o in subst P (sym is) (grows_none old)

loses_same : (old new : Option (List ℕ)) → new ≡ old → Loses [] old new
loses_same old new is = let P : Option (List ℕ) → Type 0 = λ o. Loses [] old o in subst P (sym is) (loses_none old)

-- where nothing is unsaid, all was said
all_said : (unsaid : List ℕ) (told after : Option (List ℕ)) → unsaid ≡ []
    → Grows [] told (option_map (λ said. said ++ unsaid) after) → Grows [] told after
all_said unsaid told None none grew = tt
all_said unsaid None (Some y) none grew = absurd grew
all_said unsaid (Some x) (Some y) none grew = sym (append-nil y) ∙ ap (λ (u : List ℕ). y ++ u) (sym none) ∙ grew

-- what was said to the gathering link was said to the link behind it
on_time : (heard text : List ℕ) (before told after : LinkTells) → Spoke heard text before told → Finishes false told after
    → Spoke heard text before after
on_time heard text before told after spoke fin = spoke_then_nothing heard text before told after spoke (record {
  given = grows_same told.given after.given fin.flushes.given;
  left = loses_same told.left after.left fin.flushes.left;
  said = all_said fin.unsaid told.said after.said (fin.all refl) fin.flushes.said;
  faults = let same = fin.flushes.faults in omega arith;
  quiets = let same = fin.flushes.quiets in omega arith;
})

-- a link with other bytes left, and another count of quiets
abbrev with_left : LinkTells → Option (List ℕ) → ℕ → LinkTells
with_left link left quiets = record { given = link.given; left = left; said = link.said; faults = link.faults; quiets = quiets }

-- what depends on what is left and on the quiets alone
stays : (told after : LinkTells) → Finishes false told after → (P : Option (List ℕ) → ℕ → Type 0) → P told.left told.quiets
    → P after.left after.quiets
stays told after fin P fact =
    let Q : Option (List ℕ) × ℕ → Type 0 = λ o. P o.0 o.1 in
    subst Q (sym (λ i. (fin.flushes.left i, fin.flushes.quiets i))) fact

still : (before told after : LinkTells) → Finishes false told after → IsOver before told → IsOver before after
still before told after fin over = stays told after fin (λ left quiets. IsOver before (with_left after left quiets)) over

still_first : (before told after : LinkTells) (heard : List ℕ) (lines : List Cut) → Finishes false told after
    → AreFirstOf INPUT_LIMIT before told heard lines → AreFirstOf INPUT_LIMIT before after heard lines
still_first before told after heard lines fin first =
    stays told after fin (λ left quiets. AreFirstOf INPUT_LIMIT before (with_left after left quiets) heard lines) first

-- ---- by what a command does

exchanged_on : (heard text : List ℕ) (before told after : LinkTells) → Finishes false told after → Exchanged heard text before told → Exchanged heard text before after
exchanged_on heard text before told after fin e = record {
  spoke = on_time heard text before told after e.spoke fin;
  faults = fin.flushes.faults ∙ e.faults;
  quiets = fin.flushes.quiets ∙ e.quiets;
}

module _ (K : Opening) (loads : List OnShelf → List Loaded) (shelf back : List OnShelf) (given : List Given) (begun : Pairs) (before told after : LinkTells) where
  -- how far it came at want of memory
  abbrev Lacked : LinkTells → Type 0
  Lacked link =
      MemoryLacked (λ lines given_up text. HasBegun K loads shelf begun lines text) INPUT_LIMIT before link
      ⊎ HearingFailed (HasBegunUnasked K loads shelf begun) INPUT_LIMIT before link

  lacked_counts : Lacked told → before.faults ≤ told.faults
  lacked_counts (inl lacked) = lacked.spoke.faults
  lacked_counts (inr hearing) = hearing.spoke.faults

  lines_counts : (end : End) → PromisesLines K loads shelf back given begun before told end → before.faults ≤ told.faults
  lines_counts ends.Done s = s.spoke.faults
  lines_counts ends.InputTooLong s = s.exchanged.spoke.faults
  lines_counts ends.LinkFault (inl hearing) = hearing.spoke.faults
  lines_counts ends.LinkFault (inr saying) = saying.spoke.faults
  lines_counts ends.Memory s = lacked_counts s.served
  lines_counts ends.Usage s = absurd s
  lines_counts (ends.ConfFault fault) s = absurd s
  lines_counts (ends.TypesFault path fault) s = absurd s
  lines_counts (ends.SettingsFault fault) s = absurd s
  lines_counts (ends.OpenFault path) s = absurd s
  lines_counts (ends.ReadFault path) s = absurd s

  lines_rose : PromisesLines K loads shelf back given begun before told ends.LinkFault → Rose before.faults told.faults
  lines_rose (inl hearing) = hearing.rose
  lines_rose (inr saying) = saying.rose

  rose_on : Finishes false told after → Rose before.faults told.faults → Rose before.faults after.faults
  rose_on fin rose = let R : ℕ → Type 0 = λ n. Rose before.faults n in subst R (sym fin.flushes.faults) rose

  lacked_on : Lacked told → Finishes false told after → Lacked after
  lacked_on (inl s) fin = inl (record {
    heard = s.heard;
    lines = s.lines;
    given_up = s.given_up;
    first = still_first before told after s.heard (s.lines ++ option_to_list s.given_up) fin s.first;
    text = s.text;
    served = s.served;
    spoke = on_time s.heard s.text before told after s.spoke fin;
    faults = fin.flushes.faults ∙ s.faults;
  })
  lacked_on (inr s) fin = inr (record {
    heard = s.heard;
    text = s.text;
    short = s.short;
    served = s.served;
    spoke = on_time s.heard s.text before told after s.spoke fin;
    rose = rose_on fin s.rose;
    quiets = fin.flushes.quiets ∙ s.quiets;
  })

  -- at any end but a fault of the link
  lines_on : (end : End) → PromisesLines K loads shelf back given begun before told end → Finishes false told after → (end ≡ ends.LinkFault → ⊥)
      → PromisesLines K loads shelf back given begun before after end
  lines_on ends.Done s fin other = record {
    heard = s.heard;
    text = s.text;
    short = s.short;
    served = s.served;
    spoke = on_time s.heard s.text before told after s.spoke fin;
    faults = fin.flushes.faults ∙ s.faults;
    over = still before told after fin s.over;
  }
  lines_on ends.InputTooLong s fin other = record {
    heard = s.heard;
    text = s.text;
    long = s.long;
    served = s.served;
    exchanged = exchanged_on s.heard s.text before told after fin s.exchanged;
  }
  lines_on ends.Memory s fin other = record { returned = s.returned; served = lacked_on s.served fin }
  lines_on ends.LinkFault s fin other = absurd (other refl)
  lines_on ends.Usage s fin other = absurd s
  lines_on (ends.ConfFault fault) s fin other = absurd s
  lines_on (ends.TypesFault path fault) s fin other = absurd s
  lines_on (ends.SettingsFault fault) s fin other = absurd s
  lines_on (ends.OpenFault path) s fin other = absurd s
  lines_on (ends.ReadFault path) s fin other = absurd s

module _ (items : List Item) (before told after : LinkTells) where
  writes_counts : (end : End) → Writes items before told end → before.faults ≤ told.faults
  writes_counts ends.Done s = s.spoke.faults
  writes_counts ends.InputTooLong s = absurd s
  writes_counts ends.LinkFault s = s.spoke.faults
  writes_counts ends.Memory s = s.spoke.faults
  writes_counts ends.Usage s = absurd s
  writes_counts (ends.ConfFault fault) s = absurd s
  writes_counts (ends.TypesFault path fault) s = absurd s
  writes_counts (ends.SettingsFault fault) s = absurd s
  writes_counts (ends.OpenFault path) s = absurd s
  writes_counts (ends.ReadFault path) s = absurd s

  writes_on : (end : End) → Writes items before told end → Finishes false told after → (end ≡ ends.LinkFault → ⊥) → Writes items before after end
  writes_on ends.Done s fin other = exchanged_on _ _ before told after fin s
  writes_on ends.InputTooLong s fin other = absurd s
  writes_on ends.LinkFault s fin other = absurd (other refl)
  writes_on ends.Memory s fin other = exchanged_on _ _ before told after fin s
  writes_on ends.Usage s fin other = absurd s
  writes_on (ends.ConfFault fault) s fin other = absurd s
  writes_on (ends.TypesFault path fault) s fin other = absurd s
  writes_on (ends.SettingsFault fault) s fin other = absurd s
  writes_on (ends.OpenFault path) s fin other = absurd s
  writes_on (ends.ReadFault path) s fin other = absurd s

module _ (words : List (List ℕ)) (files : Option (List FileTells)) (shelf back : List OnShelf) (given : List Given) (begun : Pairs) (before : LinkTells) where
  -- ---- the counts

  does_counts : (mode : Mode) (file : Option (List ℕ)) (found : Opened) (told : LinkTells) (end : End)
      → Does words files shelf back given begun before told mode file found end → before.faults ≤ told.faults
  does_counts Lines file found told end does = lines_counts _ _ _ _ _ _ before told before end does
  does_counts Test file found told end does = writes_counts found.items before told before end does.1

  -- no count falls in a run
  counts_on : (end : End) (told : LinkTells) → Promises words files shelf back given begun before told end → before.faults ≤ told.faults
  counts_on end told (inl ran) = does_counts ran.of.mode ran.of.file ran.found told end ran.does
  counts_on end told (inr refused) = let same = ap (λ (l : LinkTells). l.faults) refused.untouched.link in omega arith

  does_rose : (mode : Mode) (file : Option (List ℕ)) (found : Opened) (told : LinkTells)
      → Does words files shelf back given begun before told mode file found ends.LinkFault → Rose before.faults told.faults
  does_rose Lines file found told does = lines_rose _ _ _ _ _ _ before told before does
  does_rose Test file found told does = does.1.rose

  link_rose : (told : LinkTells) → Promises words files shelf back given begun before told ends.LinkFault → Rose before.faults told.faults
  link_rose told (inl ran) = does_rose ran.of.mode ran.of.file ran.found told ran.does
  link_rose told (inr refused) = absurd refused.why

  late_rose : (end : End) (told after : LinkTells) → Promises words files shelf back given begun before told end → Finishes true told after
      → Rose before.faults after.faults
  late_rose end told after run fin =
      later_rose before.faults told.faults after.faults (counts_on end told run) fin.flushes.faults.1

  -- ---- the ends

  does_on : (mode : Mode) (file : Option (List ℕ)) (found : Opened) (told after : LinkTells) (end : End) → (end ≡ ends.LinkFault → ⊥) → Finishes false told after
      → Does words files shelf back given begun before told mode file found end → Does words files shelf back given begun before after mode file found end
  does_on Lines file found told after end other fin does = lines_on _ _ _ _ _ _ before told after end does fin other
  does_on Test file found told after end other fin does = (does.0, writes_on found.items before told after end does.1 fin other)

  unserved : (late : Bool) (end : End) (told after : LinkTells) → Finishes late told after → WasRefused words files shelf back given begun before told end
      → WasUnserved words files shelf back given begun before after end
  unserved late end told after fin refused = record {
    why = refused.why;
    uncalled = refused.untouched.uncalled;
    heard = fin.flushes.given ∙ ap (λ (l : LinkTells). l.given) refused.untouched.link;
    left = fin.flushes.left ∙ ap (λ (l : LinkTells). l.left) refused.untouched.link;
  }

  on_link : (end : End) (told after : LinkTells) → (end ≡ ends.LinkFault → ⊥) → Finishes false told after → Promises words files shelf back given begun before told end
      → HasRunCommand words files shelf back given begun before after end ⊎ WasUnserved words files shelf back given begun before after end
  on_link end told after other fin (inl ran) = inl (record {
    of = ran.of;
    is = ran.is;
    found = ran.found;
    comes = ran.comes;
    does = does_on ran.of.mode ran.of.file ran.found told after end other fin ran.does;
  })
  on_link end told after other fin (inr refused) = inr (unserved false end told after fin refused)

  -- a run that named a fault did nothing
  late_unserved : (end : End) (told after : LinkTells) → ((mode : Mode) (file : Option (List ℕ)) (found : Opened) → Does words files shelf back given begun before told mode file found end → ⊥)
      → Finishes true told after → Promises words files shelf back given begun before told end
      → HasRunCommand words files shelf back given begun before after end ⊎ WasUnserved words files shelf back given begun before after end
  late_unserved end told after never fin (inl ran) = absurd (never ran.of.mode ran.of.file ran.found ran.does)
  late_unserved end told after never fin (inr refused) = inr (unserved true end told after fin refused)

  by_end : (late : Bool) (end : End) (told after : LinkTells) → Promises words files shelf back given begun before told end → Finishes late told after
      → PromisesLink words files shelf back given begun before after (end_after late end)
  by_end false ends.Done told after run fin = on_link ends.Done told after (λ e. cc e) fin run
  by_end false ends.InputTooLong told after run fin = on_link ends.InputTooLong told after (λ e. cc e) fin run
  by_end false ends.Memory told after run fin = on_link ends.Memory told after (λ e. cc e) fin run
  by_end false ends.LinkFault told after run fin =
      let same = fin.flushes.faults in rose_later before.faults told.faults after.faults (link_rose told run) (omega arith)
  by_end false ends.Usage told after run fin = on_link ends.Usage told after (λ e. cc e) fin run
  by_end false (ends.ConfFault fault) told after run fin = on_link (ends.ConfFault fault) told after (λ e. cc e) fin run
  by_end false (ends.TypesFault path fault) told after run fin = on_link (ends.TypesFault path fault) told after (λ e. cc e) fin run
  by_end false (ends.SettingsFault fault) told after run fin = on_link (ends.SettingsFault fault) told after (λ e. cc e) fin run
  by_end false (ends.OpenFault path) told after run fin = on_link (ends.OpenFault path) told after (λ e. cc e) fin run
  by_end false (ends.ReadFault path) told after run fin = on_link (ends.ReadFault path) told after (λ e. cc e) fin run
  by_end true ends.Done told after run fin = late_rose ends.Done told after run fin
  by_end true ends.InputTooLong told after run fin = late_rose ends.InputTooLong told after run fin
  by_end true ends.Memory told after run fin = late_rose ends.Memory told after run fin
  by_end true ends.LinkFault told after run fin = late_rose ends.LinkFault told after run fin
  by_end true ends.Usage told after run fin = late_unserved ends.Usage told after never fin run
    where
      never : (mode : Mode) (file : Option (List ℕ)) (found : Opened) → Does words files shelf back given begun before told mode file found ends.Usage → ⊥
      never Lines file found does = does
      never Test file found does = does.1
  by_end true (ends.ConfFault fault) told after run fin = late_unserved (ends.ConfFault fault) told after never fin run
    where
      never : (mode : Mode) (file : Option (List ℕ)) (found : Opened) → Does words files shelf back given begun before told mode file found (ends.ConfFault fault) → ⊥
      never Lines file found does = does
      never Test file found does = does.1
  by_end true (ends.TypesFault path fault) told after run fin = late_unserved (ends.TypesFault path fault) told after never fin run
    where
      never : (mode : Mode) (file : Option (List ℕ)) (found : Opened) → Does words files shelf back given begun before told mode file found (ends.TypesFault path fault) → ⊥
      never Lines file found does = does
      never Test file found does = does.1
  by_end true (ends.SettingsFault fault) told after run fin = late_unserved (ends.SettingsFault fault) told after never fin run
    where
      never : (mode : Mode) (file : Option (List ℕ)) (found : Opened) → Does words files shelf back given begun before told mode file found (ends.SettingsFault fault) → ⊥
      never Lines file found does = does
      never Test file found does = does.1
  by_end true (ends.OpenFault path) told after run fin = late_unserved (ends.OpenFault path) told after never fin run
    where
      never : (mode : Mode) (file : Option (List ℕ)) (found : Opened) → Does words files shelf back given begun before told mode file found (ends.OpenFault path) → ⊥
      never Lines file found does = does
      never Test file found does = does.1
  by_end true (ends.ReadFault path) told after run fin = late_unserved (ends.ReadFault path) told after never fin run
    where
      never : (mode : Mode) (file : Option (List ℕ)) (found : Opened) → Does words files shelf back given begun before told mode file found (ends.ReadFault path) → ⊥
      never Lines file found does = does
      never Test file found does = does.1

  -- what is promised of the link behind
  pub promises_link : (end : End) (after : LinkTells) → PromisesGathered words files shelf back given begun before after end
      → PromisesLink words files shelf back given begun before after end
  promises_link end after p =
      let P : End → Type 0 = λ e. PromisesLink words files shelf back given begun before after e in
      subst P (sym p.ends) (by_end p.late p.run_end p.told after p.run p.finishes)

-- what a run that began with nothing kept promises, once its last replies were said or couldn't be
pub promises_gathered : (words : List (List ℕ)) (files : Option (List FileTells)) (shelf plugs back : List OnShelf) (given : List Given) (begun : Pairs) (before first told after : LinkTells)
    (run_end end : End) (late : Bool) → plugs ≡ shelf → first ≡ gathered [] before
    → Promises words files plugs back given begun first told run_end → Finishes late told after → end ≡ end_after late run_end
    → PromisesGathered words files shelf back given begun before after end
promises_gathered words files shelf plugs back given begun before first told after run_end end late same begins run fin ends =
    let P : List OnShelf → Type 0 = λ s. Promises words files s back given begun before told run_end in
    let Q : LinkTells → Type 0 = λ l. Promises words files plugs back given begun l told run_end in
    record {
      run_end = run_end;
      told = told;
      run = subst P same (subst Q (begins ∙ gathered_none before) run);
      late = late;
      finishes = fin;
      ends = ends;
    }

-- ---- what was tried

-- a late fault of the link hides no fault of a file
tried_late : (end : End) (before after : WorldTells) → HasTried end before after → HasTried (end_after true end) before after
tried_late ends.Done before after tried = record { faults = tried.faults; reading_faults = tried.reading_faults }
tried_late ends.InputTooLong before after tried = record { faults = tried.faults; reading_faults = tried.reading_faults }
tried_late ends.LinkFault before after tried = tried
tried_late ends.Memory before after tried = record { faults = tried.faults; reading_faults = tried.reading_faults }
tried_late ends.Usage before after tried = tried
tried_late (ends.ConfFault fault) before after tried = tried
tried_late (ends.TypesFault path fault) before after tried = tried
tried_late (ends.SettingsFault fault) before after tried = tried
tried_late (ends.OpenFault path) before after tried = tried
tried_late (ends.ReadFault path) before after tried = tried

tried_at : (late : Bool) (end : End) (before after : WorldTells) → HasTried end before after → HasTried (end_after late end) before after
tried_at false end before after tried = tried
tried_at true end before after tried = tried_late end before after tried

-- the world's counts rose as the end has it, also where its last replies couldn't be said
pub tried_so : (late : Bool) (run_end end : End) (before after : WorldTells) → end ≡ end_after late run_end → HasTried run_end before after
    → HasTried end before after
tried_so late run_end end before after is tried =
    let P : End → Type 0 = λ e. HasTried e before after in
    subst P (sym is) (tried_at late run_end before after tried)

-- what came back stands where it stood on the shelf
pub same_places : (shelf plugs back : List OnShelf) → plugs ≡ shelf → places back ≡ places plugs → places back ≡ places shelf
same_places shelf plugs back is came = came ∙ ap places is

-- ---- which end has to come

-- where the link behind didn't fail, its replies were said at the end, and the end is the run's
in_time : (before told after : LinkTells) (run_end end : End) (late : Bool) → Finishes late told after → end ≡ end_after late run_end → before.faults ≤ told.faults
    → (Rose before.faults after.faults → ⊥) → (end ≡ run_end) × (after.faults ≡ told.faults)
in_time before told after run_end end false fin is counts fine = (is, fin.flushes.faults)
in_time before told after run_end end true fin is counts fine =
    absurd (fine (later_rose before.faults told.faults after.faults counts fin.flushes.faults.1))

taken_before : (mode : Mode) (before first told after : LinkTells) (late : Bool) → first ≡ gathered [] before → Finishes late told after → IsTaken mode before after → IsTaken mode first told
taken_before Test before first told after late begins fin taken = tt
taken_before Lines before first told after late begins fin taken = record {
  bytes = taken.bytes;
  rest = taken.rest;
  had = ap (λ (l : LinkTells). l.left) begins ∙ taken.had;
  has = sym fin.flushes.left ∙ taken.has;
  few = taken.few;
}

-- no count fell
counts_so : (words : List (List ℕ)) (files : Option (List FileTells)) (plugs back : List OnShelf) (given : List Given) (begun : Pairs) (before first told : LinkTells) (run_end : End)
    → first ≡ gathered [] before → Promises words files plugs back given begun first told run_end → before.faults ≤ told.faults
counts_so words files plugs back given begun before first told run_end begins run =
    let same = ap (λ (l : LinkTells). l.faults) begins in
    let counts = counts_on words files plugs back given begun first run_end told run in
    omega (arith, same, counts)

-- a run that neither heard nor said has nothing to say at its end, so that it ends as the run did
pub unheard_so : {L A E : Type 0} (finished : Result A E) (begun after : Gathering L) (run_end end : End)
    → OnErr finished (0 < length (kept_of after)) → after ≡ begun → kept_of begun ≡ [] → end ≡ end_after (is_err finished) run_end
    → (run_end ≡ ends.Usage) ⊎ (run_end ≡ ends.Memory) → (end ≡ ends.Usage) ⊎ (end ≡ ends.Memory)
unheard_so (Ok done) begun after run_end end failed same none is usage =
    elim usage [
      | inl e ↦ inl (is ∙ e)
      | inr e ↦ inr (is ∙ e)
    ]
unheard_so (Err fault) begun after run_end end failed same none is usage = absurd (lacks (kept_of after) failed (ap kept_of same ∙ none))
  where
    lacks : (kept : List ℕ) → 0 < length kept → kept ≡ [] → ⊥
    lacks kept some none = let size : length kept ≡ 0 = ap length none in omega (arith, size, some)

-- the run's end is this one or of a kind, where its link didn't fail
pub ends_so : (wanted : End) (Other : End → Type 0) (words : List (List ℕ)) (files : Option (List FileTells)) (plugs back : List OnShelf) (given : List Given) (begun : Pairs)
    (before first told after : LinkTells) (run_end end : End) (late : Bool) → first ≡ gathered [] before → Promises words files plugs back given begun first told run_end
    → Finishes late told after → end ≡ end_after late run_end → (run_end ≡ wanted) ⊎ Other run_end
    → (Rose before.faults after.faults → ⊥) → (end ≡ wanted) ⊎ Other end
ends_so wanted Other words files plugs back given begun before first told after run_end end late begins run fin is ends fine =
    let timely = in_time before told after run_end end late fin is (counts_so words files plugs back given begun before first told run_end begins run) fine in
    elim ends [
      | inl e ↦ inl (timely.0 ∙ e)
      | inr other ↦ inr (subst Other (sym timely.0) other)
    ]

pub completes_so : (mode : Mode) (Other : End → Type 0) (words : List (List ℕ)) (files : Option (List FileTells)) (plugs back : List OnShelf) (given : List Given) (begun : Pairs)
    (before first told after : LinkTells) (run_end end : End) (late : Bool) → first ≡ gathered [] before → Promises words files plugs back given begun first told run_end
    → Finishes late told after → end ≡ end_after late run_end
    → ((Rose first.faults told.faults → ⊥) → IsTaken mode first told → (run_end ≡ ends.Done) ⊎ Other run_end)
    → (Rose before.faults after.faults → ⊥) → IsTaken mode before after → (end ≡ ends.Done) ⊎ Other end
completes_so mode Other words files plugs back given begun before first told after run_end end late begins run fin is completes fine taken =
    let timely = in_time before told after run_end end late fin is (counts_so words files plugs back given begun before first told run_end begins run) fine in
    let same = ap (λ (l : LinkTells). l.faults) begins in
    let R : ℕ → ℕ → Type 0 = Rose in
    ends_so ends.Done Other words files plugs back given begun before first told after run_end end late begins run fin is
    (completes (λ rose. fine (subst (λ (n : ℕ). R before.faults n) (sym timely.1) (subst (λ (n : ℕ). R n told.faults) same rose))) (taken_before mode before first told after late begins fin taken))
    fine
