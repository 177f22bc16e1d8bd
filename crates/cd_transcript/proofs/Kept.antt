-- What work, lines and the opening leave as it was.
use Rattle.cd_daemon.specs.declared.Opening.{Opening}
use Rattle.cd_history.specs.History.{History, handles, is_stopped, kept}
use Rattle.cd_history.specs.Leases.{taken_by}
use Rattle.cd_history.specs.Registrations.{is_closed, is_retired, registrations}
use Rattle.cd_history.specs.declared.given.Given.{Given}
use Rattle.cd_transcript.specs.LineRuns.{Loaded, Opens, ServesLine, ServesLines, Works, blank, called, flushed, got, handled, listed, none, none as opened_all, nothing, one_more, plug_in, put, refused}
use Rattle.cd_transcript.specs.Transcripts.{Said}
use Rattle.std.proofs.Common.{Bool, List, None, Option, Some, cond, false, nat_eq, refl, true, ℕ, ◌∙◌, ◌≡◌}

-- Between P and Q nobody was registered, closed or handed out, and the daemon wasn't stopped; and where nobody was out
-- in P, nobody is in Q.
pub record Leaves (P Q : History) : Type 0 where
  pub registered : registrations Q ≡ registrations P
  pub closed : (r : ℕ) → is_closed r Q ≡ is_closed r P
  pub retired : (r : ℕ) → is_retired r Q ≡ is_retired r P
  pub stopped : is_stopped Q ≡ is_stopped P
  pub home : ((r : ℕ) → taken_by r P ≡ None) → (r : ℕ) → taken_by r Q ≡ None

-- the same, part by part, so that it computes
abbrev Left : History → History → Type 0
Left P Q =
    (registrations Q ≡ registrations P) × ((r : ℕ) → is_closed r Q ≡ is_closed r P) × ((r : ℕ) → is_retired r Q ≡ is_retired r P)
    × (is_stopped Q ≡ is_stopped P) × (((r : ℕ) → taken_by r P ≡ None) → (r : ℕ) → taken_by r Q ≡ None)

leaves : (P Q : History) → Left P Q → Leaves P Q
leaves P Q l = record { registered = l.0; closed = l.1; retired = l.2; stopped = l.3; home = l.4 }

as_it_was : (P : History) → Left P P
as_it_was P = (refl, λ r. refl, λ r. refl, refl, λ home. home)

and_then : (P Q R : History) → Left P Q → Left Q R → Left P R
and_then P Q R f l = (l.0 ∙ f.0, λ r. l.1 r ∙ f.1 r, λ r. l.2 r ∙ f.2 r, l.3 ∙ f.3, λ home. l.4 (f.4 home))

-- who was taken and answered is back
back : (same : Bool) (who : Option ℕ) → who ≡ None → cond same None (cond same (Some 0) who) ≡ None
back true who at_home = refl
back false who at_home = at_home

work_left : {K : Opening} {Moment : ℕ → List Given → Type 0} {P Q : History} {given : List Given} → Works K Moment P given Q → Left P Q
work_left {P = P} nothing = as_it_was P
work_left (called {Q = Q} {r = r} w is next) =
    let l = work_left w in (l.0, l.1, l.2, l.3, λ home q. back (nat_eq r q) (taken_by q Q) (l.4 home q))
work_left (handled w is within at) = work_left w

pub works_leave : {K : Opening} {Moment : ℕ → List Given → Type 0} {P Q : History} {given : List Given} → Works K Moment P given Q → Leaves P Q
works_leave {P = P} {Q = Q} w = leaves P Q (work_left w)

module _ {Line : Type 0} (K : Opening) (says : Line → ℕ → Said) where
  line_left : {l : Line} {P Q : History} {given : List Given} → ServesLine K says l P given Q → Left P Q
  line_left {P = P} (blank is) = as_it_was P
  line_left (refused is w) = work_left w.works
  line_left (put is then many w) = work_left w.works
  line_left (got is w) = work_left w.works
  line_left (listed is w) = work_left w.works
  line_left (flushed is begun w) = work_left w.works

  lines_left : {lines : List Line} {P Q : History} {given : List Given} → ServesLines K says lines P given Q → Left P Q
  lines_left {P = P} none = as_it_was P
  lines_left {P = P} {Q = R} (one_more {Q = Q} s l) = and_then P Q R (lines_left s) (line_left l)

  pub lines_leave : {lines : List Line} {P Q : History} {given : List Given} → ServesLines K says lines P given Q → Leaves P Q
  lines_leave {P = P} {Q = Q} s = leaves P Q (lines_left s)

-- The opening registers alone: nothing was stopped, nobody closed, handed out or taken, and no list kept or handled.
pub record OnlyOpens (P Q : History) : Type 0 where
  pub stopped : is_stopped Q ≡ is_stopped P
  pub closed : (r : ℕ) → is_closed r Q ≡ is_closed r P
  pub retired : (r : ℕ) → is_retired r Q ≡ is_retired r P
  pub home : (r : ℕ) → taken_by r Q ≡ taken_by r P
  pub lists : kept Q ≡ kept P
  pub handled : handles Q ≡ handles P

abbrev Opened : History → History → Type 0
Opened P Q =
    (is_stopped Q ≡ is_stopped P) × ((r : ℕ) → is_closed r Q ≡ is_closed r P) × ((r : ℕ) → is_retired r Q ≡ is_retired r P)
    × ((r : ℕ) → taken_by r Q ≡ taken_by r P) × (kept Q ≡ kept P) × (handles Q ≡ handles P)

opening_left : {loaded : List Loaded} {P Q : History} {given : List Given} → Opens loaded P given Q → Opened P Q
opening_left opened_all = (refl, λ r. refl, λ r. refl, λ r. refl, refl, refl)
opening_left (plug_in o) = opening_left o

pub opens_leave : {loaded : List Loaded} {P Q : History} {given : List Given} → Opens loaded P given Q → OnlyOpens P Q
opens_leave o =
    let l = opening_left o in record { stopped = l.0; closed = l.1; retired = l.2; home = l.3; lists = l.4; handled = l.5 }
