-- How a run ends: the daemon stopped and worked until it was idle, and all objects are back.
use Rattle.cd_daemon.proofs.Legality.{handled_of_kept}
use Rattle.cd_daemon.specs.Answers.{is_idle, ready}
use Rattle.cd_daemon.specs.Legal.{IsLegal}
use Rattle.cd_daemon.specs.declared.Opening.{Opening}
use Rattle.cd_history.proofs.Order.{front-more, front-refl, front-trans}
use Rattle.cd_history.specs.History.{Event, History, handles, kept}
use Rattle.cd_history.specs.Leases.{answered, answered_as}
use Rattle.cd_history.specs.Order.{IsFrontOf}
use Rattle.cd_history.specs.Registrations.{Registration, is_closed, is_text, live, registrations}
use Rattle.cd_history.specs.declared.entry.Entry.TheVariants as entry
use Rattle.cd_history.specs.declared.entry.Why.TheVariants as why
use Rattle.cd_registry.specs.Told.{told_after, told_after_all}
use Rattle.cd_registry.specs.declared.calls.AnsweredCall.{AnsweredCall}
use Rattle.cd_registry.specs.declared.kinds.Kinds.{Kinds}
use Rattle.cd_registry.specs.declared.plug.PlugTells.{PlugTells}
use Rattle.cd_serve.proofs.Gifts.{gave_all_first}
use Rattle.cd_serve.proofs.Left.{left-trans, lines_left, works_left}
use Rattle.cd_serve.proofs.Registering.{all_live, none_closed, opens_all}
use Rattle.cd_serve.specs.Promises.{HasRun, IsRun}
use Rattle.cd_serve.specs.Shelf.{Place, place_of, places}
use Rattle.cd_serve.specs.Tells.{Pairs}
use Rattle.cd_serve.specs.Working.Ended.{HasStopped, IsOver}
use Rattle.cd_serve.specs.Working.Loading.{AllAreBack, PlaceSeen, all_registered, numbered, place_with, standing}
use Rattle.cd_serve.specs.Working.Progress.{Seen}
use Rattle.cd_serve.specs.Working.Standing.{IsLeftAlone}
use Rattle.cd_sock.specs.Lines.{Cut}
use Rattle.cd_transcript.proofs.Determined.{one_history}
use Rattle.cd_transcript.proofs.Events.{works-of_lines}
use Rattle.cd_transcript.proofs.Fronts.{handed_out_front, works_front}
use Rattle.cd_transcript.specs.LineRuns.{IsLineRun, Loaded, OnShelf, Opens, all_handed_out, returned}
use Rattle.cd_transcript.specs.Transcripts.{IsTranscript, line_says, of_lines}
use Rattle.std.proofs.Common.{List, None, Option, Some, [], ap, arith, is_some, length, map, nat_le, not, refl, subst, sym, true, ℕ, ◌∙◌, ◌∷◌, ◌≡◌, ◌≤◌}
use Rattle.std.proofs.lemmas.Bool.{and_parts}
use Rattle.std.proofs.lemmas.Option.{same_Some}
use Rattle.std.specs.List.{filter, flat_map}

-- ---- what was handed out changes nothing else

handed_out-handles : (K : Opening) (gs : List Registration) (P : History) → handles (all_handed_out K gs P) ≡ handles P
handed_out-handles K [] P = refl
handed_out-handles K (g ∷ gs) P = handed_out-handles K gs _

handed_out-kept : (K : Opening) (gs : List Registration) (P : History) → kept (all_handed_out K gs P) ≡ kept P
handed_out-kept K [] P = refl
handed_out-kept K (g ∷ gs) P = handed_out-kept K gs _

handed_out-registrations : (K : Opening) (gs : List Registration) (P : History) → registrations (all_handed_out K gs P) ≡ registrations P
handed_out-registrations K [] P = refl
handed_out-registrations K (g ∷ gs) P = handed_out-registrations K gs _

handed_out-answered : (K : Opening) (gs : List Registration) (P : History) (r : ℕ) → answered r (all_handed_out K gs P) ≡ answered r P
handed_out-answered K [] P r = refl
handed_out-answered K (g ∷ gs) P r = handed_out-answered K gs _ r

handed_out-of_lines : (K : Opening) (gs : List Registration) (P : History) → of_lines (all_handed_out K gs P) ≡ of_lines P
handed_out-of_lines K [] P = refl
handed_out-of_lines K (g ∷ gs) P = handed_out-of_lines K gs _

-- ---- what plug-ins tell

flat_map-same : {X A : Type 0} (f h : X → List A) → ((x : X) → f x ≡ h x) → (xs : List X) → flat_map f xs ≡ flat_map h xs
flat_map-same f h same [] = refl
flat_map-same f h same (x ∷ xs) = rw (same x, flat_map-same f h same xs) refl

map-same : {X A : Type 0} (f h : X → A) → ((x : X) → f x ≡ h x) → (xs : List X) → map f xs ≡ map h xs
map-same f h same [] = refl
map-same f h same (x ∷ xs) = rw (same x, map-same f h same xs) refl

-- nothing was told between two histories with the same registrations and answered calls
answered_as-same : (P Q : History) → registrations Q ≡ registrations P → ((r : ℕ) → answered r Q ≡ answered r P) → (name : List ℕ) → answered_as name Q ≡ answered_as name P
answered_as-same P Q regs told name =
    ap (λ (gs : List Registration). flat_map (λ g. answered g.number Q) (filter (λ g. is_text g.name name) gs)) regs
    ∙ flat_map-same (λ (g : Registration). answered g.number Q) (λ (g : Registration). answered g.number P) (λ g. told g.number)
    (filter (λ g. is_text g.name name) (registrations P))

abbrev telling : OnShelf → List AnsweredCall → OnShelf
telling plug calls = record plug { tells = told_after_all calls plug.tells }

returned-same : (P Q : History) → registrations Q ≡ registrations P → ((r : ℕ) → answered r Q ≡ answered r P) → (shelf : List OnShelf) → returned Q shelf ≡ returned P shelf
returned-same P Q regs told shelf = map-same _ _ (λ (plug : OnShelf). ap (telling plug) (answered_as-same P Q regs told plug.name)) shelf

abbrev on : List ℕ → Kinds → PlugTells → OnShelf
on name kinds tells = record { name = name; kinds = kinds; tells = tells }

same_plug : (a b : OnShelf) → standing a ≡ standing b → a ≡ b
same_plug a b same =
    ap (λ (n : List ℕ). on n a.kinds a.tells) (ap (λ (p : PlaceSeen). p.name) same)
    ∙ ap (λ (k : Kinds). on b.name k a.tells) (ap (λ (p : PlaceSeen). p.kinds) same)
    ∙ ap (λ (t : PlugTells). on b.name b.kinds t) (same_Some a.tells b.tells (ap (λ (p : PlaceSeen). p.tells) same))

-- all stand in their places, so the shelf came back
pub shelf_is_back : (P : History) (shelf back : List OnShelf) → map standing back ≡ map (place_with P []) shelf → back ≡ returned P shelf
shelf_is_back P [] [] is = refl
shelf_is_back P [] (b ∷ back) is = absurd (cc)
shelf_is_back P (plug ∷ shelf) [] is = absurd (cc)
shelf_is_back P (plug ∷ shelf) (b ∷ back) is =
    let first : standing b ≡ standing (telling plug (answered_as plug.name P)) = cc in
    let rest : map standing back ≡ map (place_with P []) shelf = cc in
    ap (λ (x : OnShelf). x ∷ back) (same_plug b (telling plug (answered_as plug.name P)) first)
    ∙ ap (λ (xs : List OnShelf). telling plug (answered_as plug.name P) ∷ xs) (shelf_is_back P shelf back rest)

told-mark : (calls : List AnsweredCall) (told : PlugTells) → (told_after_all calls told).mark ≡ told.mark
told-mark [] told = refl
told-mark (one ∷ calls) told = told-mark calls (told_after one.call one.answer told)

abbrev marked : OnShelf → ℕ → Place
marked plug mark = record { name = plug.name; kinds = plug.kinds; mark = mark }

returned-places : (P : History) (shelf : List OnShelf) → places (returned P shelf) ≡ places shelf
returned-places P [] = refl
returned-places P (plug ∷ shelf) =
    ap (λ (p : Place). p ∷ places (returned P shelf)) (ap (marked plug) (told-mark (answered_as plug.name P) plug.tells))
    ∙ ap (λ (ps : List Place). place_of plug ∷ ps) (returned-places P shelf)

-- each object is back in its place
pub places_are_same : (P : History) (shelf back : List OnShelf) → map standing back ≡ map (place_with P []) shelf → places back ≡ places shelf
places_are_same P shelf back is = ap places (shelf_is_back P shelf back is) ∙ returned-places P shelf

-- ---- the history of a run

none_is : {A : Type 0} (o : Option A) → not (is_some o) ≡ true → o ≡ None
none_is None e = refl
none_is (Some x) e = absurd (cc)

at_most : (n m : ℕ) → nat_le n m ≡ true → n ≤ m
at_most n m e = grind arith

idle_parts : (K : Opening) (P : History) → is_idle K P ≡ true → (nat_le (length (kept P)) (handles P) ≡ true) × (not (is_some (ready K P)) ≡ true)
idle_parts K P is = and_parts (nat_le (length (kept P)) (handles P)) (not (is_some (ready K P))) is

module _ {K : Opening} {begun : Pairs} {opened : History} {seen : Seen} {lines : List Cut} {text : List ℕ} (s : HasStopped K begun opened seen lines text) where
  abbrev served : History
  served = s.before.served.past

  abbrev pub stopped : History
  stopped = s.worked.working.past

  -- nothing waits any more
  pub is_over : IsOver K opened seen.core stopped
  is_over =
      let work = works_left s.worked.working.works in
      let after : IsLeftAlone served stopped = record { registered = work.registered; closed = work.closed; retired = work.retired } in
      record {
        stands = s.worked.working.runs.stands;
        home = s.worked.working.runs.home;
        left = left-trans (lines_left s.before.served.serves) after;
        none_ready = none_is (ready K stopped) (idle_parts K stopped s.worked.idle).1;
      }

  all_handled : handles stopped ≡ length (kept stopped)
  all_handled =
      let most = handled_of_kept K stopped s.worked.working.runs.stands.legal in
      let least : length (kept stopped) ≤ handles stopped = at_most (length (kept stopped)) (handles stopped) (idle_parts K stopped s.worked.idle).0 in
      omega (arith, most, least)

  abbrev pub at_end : History
  at_end = all_handed_out K (live stopped) stopped

  served_front : IsFrontOf served at_end
  served_front = front-trans (front-more (entry.Stop 0 why.ControlEnd) (front-refl served)) (front-trans (works_front s.worked.working.works) (handed_out_front K (live stopped) stopped))

  pub front_so_far : (P : History) → IsFrontOf P served → IsFrontOf P at_end
  front_so_far P front = front-trans front served_front

  pub end-of_lines : of_lines at_end ≡ of_lines served
  end-of_lines = handed_out-of_lines K (live stopped) stopped ∙ works-of_lines s.worked.working.works

  module _ (loads : List OnShelf → List Loaded) (shelf back : List OnShelf) (opens : opened ≡ all_registered (loads shelf) [])
      (registered : registrations opened ≡ numbered 0 (loads shelf)) (are_back : AllAreBack K stopped shelf (loads shelf) (map standing back)) where
    live-is : live stopped ≡ numbered 0 (loads shelf)
    live-is = all_live stopped (registrations stopped)
        (λ r. is_over.left.closed r ∙ ap (is_closed r) opens ∙ none_closed (loads shelf) [] r) ∙ is_over.left.registered ∙ registered

    is_made : IsLineRun K (line_says K) (loads shelf) lines seen.given at_end
    is_made = record {
      opened = opened;
      served = served;
      stopped = stopped;
      given_first = [];
      given_lines = s.before.seen.given;
      given_last = s.worked.working.given;
      opens = let O : History → Type 0 = λ P. Opens (loads shelf) [] [] P in subst O (sym opens) (opens_all (loads shelf) []);
      serves = s.before.served.serves;
      stops = record { works = s.worked.working.works; idle = s.worked.idle };
      hands_out = refl;
      given_is = s.worked.working.follows;
    }

    pub is_run : IsRun K loads shelf back lines seen.given at_end
    is_run = record {
      legal = let L : List Registration → Type 0 = λ gs. IsLegal K (all_handed_out K gs stopped) in subst L (sym live-is) are_back.legal;
      made = is_made;
      only = λ other r. one_history K (line_says K) r is_made;
      handled = handed_out-handles K (live stopped) stopped ∙ all_handled ∙ ap length (sym (handed_out-kept K (live stopped) stopped));
      told = shelf_is_back stopped shelf back are_back.places
          ∙ sym (returned-same stopped at_end (handed_out-registrations K (live stopped) stopped) (handed_out-answered K (live stopped) stopped) shelf);
    }

    -- the lines were served, and the daemon stopped
    unfoldable pub has_run : HasRun K loads shelf back seen.given begun lines text
    has_run = record {
      history = at_end;
      run = is_run;
      transcript = let T : List Event → Type 0 = λ events. IsTranscript (line_says K) lines events text in subst T (sym end-of_lines) s.before.served.written;
      gave = gave_all_first begun seen.pairs seen.given s.worked.working.gave;
    }
