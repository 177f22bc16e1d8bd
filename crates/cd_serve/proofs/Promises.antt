-- From the lines that were served to what a run promises.
use Rattle.cd_core.specs.Seen.{CoreSeen}
use Rattle.cd_core.specs.Stands.{Anyhow, Makes}
use Rattle.cd_daemon.specs.declared.Opening.{Opening}
use Rattle.cd_dialogue.proofs.Breaking.{begins_none}
use Rattle.cd_dialogue.proofs.Families.{AllServed-weaker, LinkLost-weaker, MemoryLacked-weaker, TooMuch-weaker}
use Rattle.cd_dialogue.specs.Dialogues.{GivenUp, ServedLast, ServesInput}
use Rattle.cd_dialogue.specs.Inputs.{lines_within}
use Rattle.cd_dialogue.specs.Served.{ClosedAt, Served}
use Rattle.cd_dialogue.specs.declared.ends.DialogueFault.TheVariants as faults
use Rattle.cd_dialogue.specs.declared.ends.DialogueFault.{DialogueFault}
use Rattle.cd_dialogue.specs.declared.ends.InputEnd.TheVariants as input
use Rattle.cd_dialogue.specs.declared.ends.InputEnd.{InputEnd}
use Rattle.cd_dialogue.specs.declared.server.Next.TheVariants as next
use Rattle.cd_dialogue.specs.declared.server.Next.{Next}
use Rattle.cd_history.specs.History.{Event, History, ◌▸◌}
use Rattle.cd_history.specs.Registrations.{registrations}
use Rattle.cd_history.specs.declared.entry.Entry.TheVariants as entry
use Rattle.cd_history.specs.declared.entry.Why.TheVariants as why
use Rattle.cd_history.specs.declared.given.Given.{Given}
use Rattle.cd_io.proofs.Speaking.{spoke_nothing}
use Rattle.cd_io.specs.Link.{LinkTells}
use Rattle.cd_serve.proofs.Ends.{front_so_far, has_run, is_over, shelf_is_back, stopped}
use Rattle.cd_serve.proofs.Gifts.{gave_all_first, gave_nothing}
use Rattle.cd_serve.proofs.Left.{left-refl, left-trans, lines_left}
use Rattle.cd_serve.proofs.Registering.{opens_all, registered_legal}
use Rattle.cd_serve.proofs.Unasked.{blank_text, idle_or_blank, idle_stopped}
use Rattle.cd_serve.specs.Ends.{end_of}
use Rattle.cd_serve.specs.Promises.{HasBegun, HasRun, HasRunToLast, IsBack, PromisesLines}
use Rattle.cd_serve.specs.Tells.{Pairs}
use Rattle.cd_serve.specs.Working.Ended.{HasBrokenOff, HasCome, HasEnded, HasServedLast, HasStopped, HasStoppedLast, IsOver, WasServed, WasUnasked}
use Rattle.cd_serve.specs.Working.Loading.{AllAreBack, all_registered, numbered, standing}
use Rattle.cd_serve.specs.Working.Outside.{GaveAllUpTo}
use Rattle.cd_serve.specs.Working.Progress.{Drains, HasServed, HasWork, IsServed, IsWorking, Seen, WorksOn}
use Rattle.cd_serve.specs.Working.Standing.{IsLeftAlone, Keeps, RunsOn}
use Rattle.cd_serve.specs.declared.end.End.TheVariants as ends
use Rattle.cd_serve.specs.declared.end.End.{End}
use Rattle.cd_serve.specs.declared.program.TheConstants.{INPUT_LIMIT}
use Rattle.cd_sock.specs.Lines.{Cut, cut_lines}
use Rattle.cd_transcript.proofs.Events.{opens-of_lines}
use Rattle.cd_transcript.specs.LineRuns.{Loaded, OnShelf, Opens, ServesLines, none, nothing as no_work, returned}
use Rattle.cd_transcript.specs.Transcripts.{IsTranscript, line_says, nothing, of_lines}
use Rattle.std.proofs.Common.{Bool, Err, List, None, Ok, Option, Result, Some, [], ap, append_assoc, arith, false, inl, inr, length, length-append, map, refl, subst, sym, true, ℕ, ◌++◌, ◌<◌, ◌∙◌, ◌∷◌, ◌≡◌}
use Rattle.std.proofs.lemmas.List.{append-nil}

-- ---- the beginning

module _ (K : Opening) (loaded : List Loaded) where
  no_lines : IsTranscript (line_says K) [] (of_lines (all_registered loaded [])) []
  no_lines = let T : List Event → Type 0 = λ events. IsTranscript (line_says K) [] events [] in subst T (sym (opens-of_lines (opens_all loaded []))) nothing

  -- the plug-ins were registered, and no line was served
  pub has_opened : (seen : Seen) → seen.given ≡ [] → RunsOn K false seen.core (all_registered loaded []) → HasServed K seen.pairs (all_registered loaded []) [] [] seen
  has_opened seen is runs =
      let S : List Given → Type 0 = λ given. ServesLines K (line_says K) [] (all_registered loaded []) given (all_registered loaded []) in
      let G : List Given → Type 0 = λ given. GaveAllUpTo seen.pairs seen.pairs given in
      record {
        past = all_registered loaded [];
        runs = runs;
        serves = subst S (sym is) none;
        written = no_lines;
        gave = subst G (sym is) (gave_nothing seen.pairs);
      }

  -- so it is where memory was lacking before
  pub nothing_begun : (loads : List OnShelf → List Loaded) (shelf : List OnShelf) → loads shelf ≡ loaded → (pairs : Pairs) → HasBegun K loads shelf pairs [] []
  nothing_begun loads shelf is pairs = record {
    opened = all_registered loaded [];
    history = all_registered loaded [];
    given_first = [];
    given_lines = [];
    opens = let O : List Loaded → Type 0 = λ xs. Opens xs [] [] (all_registered loaded []) in subst O (sym is) (opens_all loaded []);
    serves = none;
    legal = registered_legal K loaded [] tt;
    transcript = no_lines;
    gave = record { moments = tt; words = tt };
  }

-- ---- the core runs on

pub keeps-refl : (core : CoreSeen) → Keeps core core
keeps-refl core K has_stopped P runs = record { past = P; runs = runs; left = left-refl P }

pub keeps-trans : {a b c : CoreSeen} → Keeps a b → Keeps b c → Keeps a c
keeps-trans first second K has_stopped P runs =
    let one = first K has_stopped P runs in
    let two = second K has_stopped one.past one.runs in
    record { past = two.past; runs = two.runs; left = left-trans one.left two.left }

-- ---- lines after lines

module _ {D : Type 0} (view : D → Seen) where
  abbrev pub Serves : Next → Cut → List ℕ → D → D → Type 0
  Serves goes line reply old new = (goes ≡ next.GoOn) × IsServed line reply (view old) (view new)

  -- it never closes its dialogue
  never_closes : {lines : List Cut} {text : List ℕ} {old new : D} → ClosedAt Serves lines text old new → ⊥
  never_closes c = let e : next.Close ≡ next.GoOn = c.closed.0 in cc

  -- .. so it goes on behind the last line too
  last_served : {earlier : List Cut} {replies : List ℕ} {last : Cut} {reply : List ℕ} {old new : D} → (l : ServedLast Serves old new earlier replies last reply)
      → Serves next.GoOn last reply l.between new
  last_served {last = last} {reply = reply} {new = new} l =
      let G : Next → Type 0 = λ goes. Serves goes last reply l.between new in subst G l.then.0 l.then

  module _ (K : Opening) (begun : Pairs) (opened : History) where
    has_served : (lines : List Cut) (text : List ℕ) (earlier : List Cut) (before : List ℕ) (old new : D)
        → Served (Serves next.GoOn) lines text old new → HasServed K begun opened earlier before (view old) → HasServed K begun opened (earlier ++ lines) (before ++ text) (view new)
    has_served [] text earlier before old new s h =
        let L : List Cut → Type 0 = λ ls. HasServed K begun opened ls (before ++ text) (view new) in
        let T : List ℕ → Type 0 = λ t. HasServed K begun opened earlier (before ++ t) (view new) in
        let E : List ℕ → Type 0 = λ t. HasServed K begun opened earlier t (view new) in
        let N : D → Type 0 = λ d. HasServed K begun opened earlier before (view d) in
        subst L (sym (append-nil earlier)) (subst T (sym s.0) (subst E (sym (append-nil before)) (subst N (sym s.1) h)))
    has_served (line ∷ lines) text earlier before old new (mid, reply, others, is, one, more) h =
        let L : List Cut → Type 0 = λ ls. HasServed K begun opened ls (before ++ text) (view new) in
        let T : List ℕ → Type 0 = λ t. HasServed K begun opened ((earlier ++ line ∷ []) ++ lines) t (view new) in
        subst L (append_assoc earlier (line ∷ []) lines)
        (subst T (append_assoc before reply others ∙ ap (λ (t : List ℕ). before ++ t) (sym is))
        (has_served lines others (earlier ++ line ∷ []) (before ++ reply) mid new more (one.1.serves K begun opened earlier before h).served))

  keeps_core : (lines : List Cut) (text : List ℕ) (old new : D) → Served (Serves next.GoOn) lines text old new → Keeps (view old).core (view new).core
  keeps_core [] text old new s = let C : D → Type 0 = λ d. Keeps (view old).core (view d).core in subst C (sym s.1) (keeps-refl (view old).core)
  keeps_core (line ∷ lines) text old new (mid, reply, others, is, one, more) = keeps-trans one.1.keeps (keeps_core lines others mid new more)

  module _ (gives_up : Cut → D → D → Type 0) (keeps : (line : Cut) (old new : D) → gives_up line old new → Keeps (view old).core (view new).core)
      (K : Opening) (begun : Pairs) (opened : History) (before after : LinkTells) (first last : D) (at_first : HasServed K begun opened [] [] (view first)) where
    served_from : (lines : List Cut) (text : List ℕ) (new : D) → Served (Serves next.GoOn) lines text first new → HasServed K begun opened lines text (view new)
    served_from lines text new s = has_served K begun opened lines text [] [] first new s at_first

    -- the last one's reply may not have been said
    served_to_last : (earlier : List Cut) (replies : List ℕ) (line : Cut) (reply : List ℕ) → ServedLast Serves first last earlier replies line reply
        → HasServedLast K begun opened (view last) earlier replies line reply
    unfolding served_from last_served
    served_to_last earlier replies line reply l =
        let so_far = served_from earlier replies l.between l.served in
        let all = (last_served l).1.serves K begun opened earlier replies so_far in
        record { before = record { seen = view l.between; served = so_far }; all = all.served; front = all.front }

    given_back : (line : Option Cut) (old : D) → GivenUp Serves gives_up line old last → Keeps (view old).core (view last).core
    given_back None old e = let C : D → Type 0 = λ d. Keeps (view old).core (view d).core in subst C (sym e) (keeps-refl (view old).core)
    given_back (Some line) old g = keeps line old last g

    -- how far it came
    pub has_come : (result : Result InputEnd DialogueFault) → ServesInput Serves gives_up first last before after INPUT_LIMIT result
        → HasCome K begun opened (view last) before after (end_of result)
    has_come (Ok input.Ended) s = AllServed-weaker _ _ (λ lines text. served_from lines text last) INPUT_LIMIT before after s
    has_come (Ok input.TooLong) s = TooMuch-weaker _ _ (λ lines text. served_from lines text last) INPUT_LIMIT before after s
    has_come (Ok input.Closed) s = absurd (never_closes s.served)
    has_come (Err faults.Link) s = LinkLost-weaker _ _ (λ lines text. served_from lines text last) INPUT_LIMIT before after _ _ served_to_last s
    has_come (Err faults.Memory) s =
        let on = keeps-trans (keeps_core _ _ first s.served.last s.served.served) (given_back s.given_up s.served.last s.served.then) in
        let goes = on K false at_first.past at_first.runs in (
          MemoryLacked-weaker _ _ (λ lines given_up text g. record { seen = view g.last; served = served_from lines text g.last g.served }) INPUT_LIMIT before after s,
          record { past = goes.past; runs = goes.runs; left = left-trans (lines_left at_first.serves) goes.left },
        )

-- nothing was heard, and the daemon runs on
pub nothing_heard : {K : Opening} {begun : Pairs} {opened : History} (seen : Seen) (link : LinkTells) → HasServed K begun opened [] [] seen
    → HasCome K begun opened seen link link ends.Memory
nothing_heard seen link h = (
  record {
    heard = [];
    lines = [];
    given_up = None;
    first = inl (refl, begins_none (lines_within INPUT_LIMIT []));
    text = [];
    served = record { seen = seen; served = h };
    spoke = spoke_nothing link;
    faults = refl;
  },
  record { past = h.past; runs = h.runs; left = lines_left h.serves },
)

-- ---- the stop

module _ (K : Opening) (begun : Pairs) (opened : History) where
  -- it stopped, and is about to work
  pub about_to_work : {lines : List Cut} {text : List ℕ} {old mid : Seen} (h : HasServed K begun opened lines text old) (core : CoreSeen)
      → Makes old.core core Anyhow (entry.Stop 0 why.ControlEnd) → mid ≡ record old { core = core }
      → IsWorking K true begun (h.past ▸ entry.Stop 0 why.ControlEnd) old.given mid
  about_to_work {old = old} {mid = mid} h core makes is =
      let W : Seen → Type 0 = λ seen. IsWorking K true begun (h.past ▸ entry.Stop 0 why.ControlEnd) old.given seen in
      subst W (sym is) (record {
        past = h.past ▸ entry.Stop 0 why.ControlEnd;
        runs = record { stands = makes K h.past h.runs.stands tt; home = h.runs.home; is_so = refl };
        given = [];
        follows = sym (append-nil old.given);
        works = no_work;
        gave = h.gave;
      })

  module _ (old mid new : Seen) (core : CoreSeen) (makes : Makes old.core core Anyhow (entry.Stop 0 why.ControlEnd)) (is : mid ≡ record old { core = core }) where
    stops : WorksOn mid new → (lines : List Cut) (text : List ℕ) → HasServed K begun opened lines text old → HasStopped K begun opened new lines text
    stops works lines text h = record {
      before = record { seen = old; served = h };
      worked = works K true begun (h.past ▸ entry.Stop 0 why.ControlEnd) old.given (about_to_work h core makes is);
    }

    stops_last : WorksOn mid new → (earlier : List Cut) (replies : List ℕ) (last : Cut) (reply : List ℕ) → HasServedLast K begun opened old earlier replies last reply
        → HasStoppedLast K begun opened new earlier replies last reply
    unfolding stops
    stops_last works earlier replies last reply h = record { before = h.before; all = stops works (earlier ++ last ∷ []) (replies ++ reply) h.all; front = h.front }

    -- it worked until it was idle
    pub has_ended : (before after : LinkTells) (end : End) → (end ≡ ends.Memory → ⊥) → WorksOn mid new → HasCome K begun opened old before after end → HasEnded K begun opened new before after end
    has_ended before after ends.Done some works c = AllServed-weaker _ _ (stops works) INPUT_LIMIT before after c
    has_ended before after ends.InputTooLong some works c = TooMuch-weaker _ _ (stops works) INPUT_LIMIT before after c
    has_ended before after ends.LinkFault some works c = LinkLost-weaker _ _ (stops works) INPUT_LIMIT before after _ _ (stops_last works) c
    has_ended before after ends.Memory some works c = absurd (some refl)
    has_ended before after ends.Usage some works c = absurd c
    has_ended before after (ends.ConfFault fault) some works c = absurd c
    has_ended before after (ends.TypesFault path fault) some works c = absurd c
    has_ended before after (ends.SettingsFault fault) some works c = absurd c
    has_ended before after (ends.OpenFault path) some works c = absurd c
    has_ended before after (ends.ReadFault path) some works c = absurd c

  -- nothing waits where the calls that waited were made
  over_when_drained : {stopped : Bool} {last new : CoreSeen} (P : History) → IsLeftAlone opened P → RunsOn K stopped last P → Drains last new → (Q : History) × IsOver K opened new Q
  over_when_drained {stopped = stopped} P left runs drains =
      let d = drains K stopped P runs in
      (d.0, record { stands = d.1.stands; home = d.1.home; left = left-trans left d.2; none_ready = d.3 })

  -- memory was lacking before
  pub has_given_up : (seen new : Seen) (before after : LinkTells) → HasCome K begun opened seen before after ends.Memory → Drains seen.core new.core
      → HasEnded K begun opened new before after ends.Memory
  has_given_up seen new before after c drains = (inl c.0, over_when_drained c.1.past c.1.left c.1.runs drains)

  some_served : (seen : Seen) (before after : LinkTells) (end : End) → (end ≡ ends.Memory → ⊥) → HasCome K begun opened seen before after end
      → (lines : List Cut) × (text : List ℕ) × HasServed K begun opened lines text seen
  some_served seen before after ends.Done some c = (_, _, c.served)
  some_served seen before after ends.InputTooLong some c = (_, _, c.served)
  some_served seen before after ends.LinkFault some (inl c) = (_, _, c.served)
  some_served seen before after ends.LinkFault some (inr c) = (_, _, c.served.all)
  some_served seen before after ends.Memory some c = absurd (some refl)
  some_served seen before after ends.Usage some c = absurd c
  some_served seen before after (ends.ConfFault fault) some c = absurd c
  some_served seen before after (ends.TypesFault path fault) some c = absurd c
  some_served seen before after (ends.SettingsFault fault) some c = absurd c
  some_served seen before after (ends.OpenFault path) some c = absurd c
  some_served seen before after (ends.ReadFault path) some c = absurd c

  lines_were : (seen : Seen) (lines : List Cut) (text : List ℕ) → HasServed K begun opened lines text seen → WasServed K begun opened lines text
  lines_were seen lines text h = record { seen = seen; served = h }

  -- where something was written, no work waits after the stop
  lines_asked : (seen : Seen) (core : CoreSeen) → Makes seen.core core Anyhow (entry.Stop 0 why.ControlEnd) → HasWork core
      → (lines : List Cut) (text : List ℕ) → HasServed K begun opened lines text seen → WasUnasked K begun opened lines text
  lines_asked seen core makes work lines text h = record {
    was = lines_were seen lines text h;
    silent = elim (idle_or_blank h.serves) [
      | inl idle ↦ absurd (work K (h.past ▸ entry.Stop 0 why.ControlEnd) (makes K h.past h.runs.stands tt) (idle_stopped K h.past 0 why.ControlEnd idle))
      | inr blank ↦ λ no_events. blank_text K lines opened h.past text blank no_events h.written
    ];
  }

  last_asked : (seen : Seen) (core : CoreSeen) → Makes seen.core core Anyhow (entry.Stop 0 why.ControlEnd) → HasWork core
      → (earlier : List Cut) (replies : List ℕ) (last : Cut) (reply : List ℕ) → HasServedLast K begun opened seen earlier replies last reply
      → WasUnasked K begun opened (earlier ++ last ∷ []) (replies ++ reply)
  last_asked seen core makes work earlier replies last reply h = lines_asked seen core makes work (earlier ++ last ∷ []) (replies ++ reply) h.all

  -- the lines were served, and then memory was lacking
  broke_off : (seen : Seen) (core : CoreSeen) → Makes seen.core core Anyhow (entry.Stop 0 why.ControlEnd) → HasWork core
      → (before after : LinkTells) (end : End) → (end ≡ ends.Memory → ⊥) → HasCome K begun opened seen before after end → HasBrokenOff K begun opened seen before after
  broke_off seen core makes work before after ends.Done some c = inl (record {
    heard = c.heard;
    lines = cut_lines c.heard;
    given_up = None;
    first = inr (c.over, c.short, ([], sym (append-nil (cut_lines c.heard ++ []) ∙ append-nil (cut_lines c.heard))));
    text = c.text;
    served = lines_were seen (cut_lines c.heard) c.text c.served;
    spoke = c.spoke;
    faults = c.faults;
  })
  broke_off seen core makes work before after ends.InputTooLong some c = inl (record {
    heard = c.heard;
    lines = lines_within INPUT_LIMIT c.heard;
    given_up = None;
    first = inl (c.exchanged.quiets, ([], sym (append-nil (lines_within INPUT_LIMIT c.heard ++ []) ∙ append-nil (lines_within INPUT_LIMIT c.heard))));
    text = c.text;
    served = lines_were seen (lines_within INPUT_LIMIT c.heard) c.text c.served;
    spoke = c.exchanged.spoke;
    faults = c.exchanged.faults;
  })
  broke_off seen core makes work before after ends.LinkFault some c = inr (LinkLost-weaker _ _ (lines_asked seen core makes work) INPUT_LIMIT before after _ _ (last_asked seen core makes work) c)
  broke_off seen core makes work before after ends.Memory some c = absurd (some refl)
  broke_off seen core makes work before after ends.Usage some c = absurd c
  broke_off seen core makes work before after (ends.ConfFault fault) some c = absurd c
  broke_off seen core makes work before after (ends.TypesFault path fault) some c = absurd c
  broke_off seen core makes work before after (ends.SettingsFault fault) some c = absurd c
  broke_off seen core makes work before after (ends.OpenFault path) some c = absurd c
  broke_off seen core makes work before after (ends.ReadFault path) some c = absurd c

  -- memory was lacking in the work after the stop
  pub has_lacked : (old mid last new : Seen) (core : CoreSeen) → Makes old.core core Anyhow (entry.Stop 0 why.ControlEnd) → mid ≡ record old { core = core }
      → (before after : LinkTells) (end : End) → (end ≡ ends.Memory → ⊥) → HasCome K begun opened old before after end → Keeps mid.core last.core → HasWork mid.core → Drains last.core new.core
      → HasEnded K begun opened new before after ends.Memory
  has_lacked old mid last new core makes is before after end some c keeps work drains =
      let h = (some_served old before after end some c).2 in
      let C : CoreSeen → Type 0 = λ seen. RunsOn K true seen (h.past ▸ entry.Stop 0 why.ControlEnd) in
      let runs : RunsOn K true mid.core (h.past ▸ entry.Stop 0 why.ControlEnd) = subst C (sym (ap (λ (seen : Seen). seen.core) is)) (record {
        stands = makes K h.past h.runs.stands tt;
        home = h.runs.home;
        is_so = refl;
      }) in
      let goes = keeps K true (h.past ▸ entry.Stop 0 why.ControlEnd) runs in
      let alone = lines_left h.serves in
      let left : IsLeftAlone opened (h.past ▸ entry.Stop 0 why.ControlEnd) = record { registered = alone.registered; closed = alone.closed; retired = alone.retired } in
      let W : CoreSeen → Type 0 = λ seen. HasWork seen in
      (broke_off old core makes (subst W (ap (λ (seen : Seen). seen.core) is) work) before after end some c, over_when_drained goes.past (left-trans left goes.left) goes.runs drains)

  -- however it ended, nothing waits any more
  pub ended_over : (seen : Seen) (before after : LinkTells) (end : End) → HasEnded K begun opened seen before after end → (P : History) × IsOver K opened seen.core P
  ended_over seen before after ends.Done e = (stopped e.served, is_over e.served)
  ended_over seen before after ends.InputTooLong e = (stopped e.served, is_over e.served)
  ended_over seen before after ends.LinkFault (inl e) = (stopped e.served, is_over e.served)
  ended_over seen before after ends.LinkFault (inr e) = (stopped e.served.all, is_over e.served.all)
  ended_over seen before after ends.Memory e = e.1
  ended_over seen before after ends.Usage e = absurd e
  ended_over seen before after (ends.ConfFault fault) e = absurd e
  ended_over seen before after (ends.TypesFault path fault) e = absurd e
  ended_over seen before after (ends.SettingsFault fault) e = absurd e
  ended_over seen before after (ends.OpenFault path) e = absurd e
  ended_over seen before after (ends.ReadFault path) e = absurd e

-- ---- the whole run

-- a plug-in that got no call tells what it told
returned_none : (shelf : List OnShelf) → returned [] shelf ≡ shelf
returned_none [] = refl
returned_none (plug ∷ shelf) = ap (λ (rest : List OnShelf). plug ∷ rest) (returned_none shelf)

-- so a shelf that wasn't touched is back
pub unmoved : (K : Opening) (shelf back : List OnShelf) → back ≡ shelf → IsBack K shelf back
unmoved K shelf back is = record { history = []; legal = tt; told = is ∙ sym (returned_none shelf) }

-- nothing was heard, since memory was lacking before
pub promised_nothing : (K : Opening) (loads : List OnShelf → List Loaded) (shelf back : List OnShelf) (given : List Given) (pairs : Pairs) (before after : LinkTells) (end : End)
    → IsBack K shelf back → after ≡ before → end ≡ ends.Memory → PromisesLines K loads shelf back given pairs before after end
promised_nothing K loads shelf back given pairs before after end is_back same is =
    let E : End → Type 0 = λ e. PromisesLines K loads shelf back given pairs before after e in
    let L : LinkTells → Type 0 = λ link. PromisesLines K loads shelf back given pairs before link ends.Memory in
    subst E (sym is) (subst L (sym same) (record {
      returned = is_back;
      served = inl (record {
        heard = [];
        lines = [];
        given_up = None;
        first = inl (refl, begins_none (lines_within INPUT_LIMIT []));
        text = [];
        served = nothing_begun K (loads shelf) loads shelf refl pairs;
        spoke = spoke_nothing before;
        faults = refl;
      });
    }))

-- where nothing was written, nothing is left to say
nothing_unsaid : (replies said unsaid : List ℕ) → replies ++ (said ++ unsaid) ≡ [] → 0 < length unsaid → ⊥
nothing_unsaid replies said unsaid is some =
    let none : length (replies ++ (said ++ unsaid)) ≡ 0 = ap length is in
    omega (arith, none, some, length-append replies (said ++ unsaid), length-append said unsaid)

module _ (K : Opening) (loads : List OnShelf → List Loaded) (shelf back : List OnShelf) (pairs : Pairs) (seen : Seen) (before after : LinkTells)
    (registered : registrations (all_registered (loads shelf) []) ≡ numbered 0 (loads shelf))
    (hands : (P : History) → IsOver K (all_registered (loads shelf) []) seen.core P → AllAreBack K P shelf (loads shelf) (map standing back)) where
  abbrev opened : History
  opened = all_registered (loads shelf) []

  -- the lines were served
  has_come_so_far : (lines : List Cut) (text : List ℕ) → WasServed K pairs opened lines text → HasBegun K loads shelf pairs lines text
  has_come_so_far lines text h = record {
    opened = opened;
    history = h.served.past;
    given_first = [];
    given_lines = h.seen.given;
    opens = opens_all (loads shelf) [];
    serves = h.served.serves;
    legal = h.served.runs.stands.legal;
    transcript = h.served.written;
    gave = gave_all_first pairs h.seen.pairs h.seen.given h.served.gave;
  }

  ran : (lines : List Cut) (text : List ℕ) → HasStopped K pairs opened seen lines text → HasRun K loads shelf back seen.given pairs lines text
  ran lines text s = has_run s loads shelf back refl registered (hands (stopped s) (is_over s))

  ran_to_last : (earlier : List Cut) (replies : List ℕ) (last : Cut) (reply : List ℕ) → HasStoppedLast K pairs opened seen earlier replies last reply
      → HasRunToLast K loads shelf back seen.given pairs earlier replies last reply
  unfolding has_come_so_far ran has_run
  ran_to_last earlier replies last reply s = record {
    before = has_come_so_far earlier replies s.before;
    run = ran (earlier ++ last ∷ []) (replies ++ reply) s.all;
    front = front_so_far s.all s.before.served.past s.front;
  }

  shelf_back : ((P : History) × IsOver K opened seen.core P) → IsBack K shelf back
  shelf_back over = record { history = over.0; legal = over.1.stands.legal; told = shelf_is_back over.0 shelf back (hands over.0 over.1).places }

  -- no event of a line came before the first line
  none_asked : of_lines opened ≡ []
  none_asked = opens-of_lines (opens_all (loads shelf) [])

  pub run_promised : (end : End) → HasEnded K pairs opened seen before after end → PromisesLines K loads shelf back seen.given pairs before after end
  run_promised ends.Done e = AllServed-weaker _ _ ran INPUT_LIMIT before after e
  run_promised ends.InputTooLong e = TooMuch-weaker _ _ ran INPUT_LIMIT before after e
  run_promised ends.LinkFault e = LinkLost-weaker _ _ ran INPUT_LIMIT before after _ _ ran_to_last e
  run_promised ends.Memory (inl m, over) =
      record { returned = shelf_back over; served = inl (MemoryLacked-weaker _ _ (λ lines given_up text w. has_come_so_far lines text w) INPUT_LIMIT before after m) }
  run_promised ends.Memory (inr (inl heard), over) = record {
    returned = shelf_back over;
    served = inr (record {
      heard = heard.heard;
      text = heard.text;
      short = heard.short;
      served = (has_come_so_far _ heard.text heard.served.was, heard.served.silent none_asked);
      spoke = heard.spoke;
      rose = heard.rose;
      quiets = heard.quiets;
    });
  }
  run_promised ends.Memory (inr (inr said), over) = absurd (nothing_unsaid said.replies said.said said.unsaid (said.served.silent none_asked) said.some)
  run_promised ends.Usage e = absurd e
  run_promised (ends.ConfFault fault) e = absurd e
  run_promised (ends.TypesFault path fault) e = absurd e
  run_promised (ends.SettingsFault fault) e = absurd e
  run_promised (ends.OpenFault path) e = absurd e
  run_promised (ends.ReadFault path) e = absurd e
