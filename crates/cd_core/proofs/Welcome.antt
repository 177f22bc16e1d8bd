-- The core stands for the history with a registration more, or with one that was refused.
use Rattle.cd_core.proofs.Answering.{answer_by, answer_is}
use Rattle.cd_daemon.proofs.Fresh.{configured_alone, fresh}
use Rattle.cd_daemon.proofs.Legality.{number_of, numbered}
use Rattle.cd_daemon.proofs.Lists.{filter_append, map_each, number_at}
use Rattle.cd_core.proofs.Rows.{row_with, rows_quiet}
use Rattle.cd_core.proofs.Standing.{quiet}
use Rattle.cd_daemon.specs.Calls.{calls_to, configuring, sent_to}
use Rattle.cd_daemon.specs.Legal.{IsLegal}
use Rattle.cd_core.specs.Objects.{home_with, place_by}
use Rattle.cd_core.specs.Replies.{as_register_fault, register_refusal}
use Rattle.cd_core.specs.Seen.{CoreSeen}
use Rattle.cd_core.specs.Stands.{Anyhow, Makes, Stands, row_after, rows_after, writers_after}
use Rattle.cd_core.specs.declared.faults.RegisterFault.{RegisterFault}
use Rattle.cd_daemon.specs.Answers.{register_answer}
use Rattle.cd_daemon.specs.declared.Opening.{Opening}
use Rattle.cd_history.specs.History.{Event, History, ◌▸◌}
use Rattle.cd_history.specs.Leases.{answered, taken_by, takes}
use Rattle.cd_history.specs.Registrations.{Registration, has_kind, is_closed, is_retired, live, registrations}
use Rattle.cd_history.specs.declared.entry.Entry.TheVariants as entry
use Rattle.cd_history.specs.declared.entry.Joining.TheVariants as joinings
use Rattle.cd_history.specs.declared.entry.Joining.{Joining}
use Rattle.cd_history.specs.declared.entry.RegisterFault.TheVariants as refused
use Rattle.cd_history.specs.declared.entry.RegisterFault.{RegisterFault as Refusal}
use Rattle.cd_registry.specs.Faults.{add_fault, named_fault}
use Rattle.cd_registry.specs.Rows.{Row, after_post, new_row, with_row}
use Rattle.cd_registry.specs.declared.calls.AnsweredCall.{AnsweredCall}
use Rattle.cd_registry.specs.declared.calls.Call.TheVariants as calls
use Rattle.cd_registry.specs.declared.calls.Call.{Call}
use Rattle.cd_registry.specs.declared.faults.AddFault.TheVariants as add
use Rattle.cd_registry.specs.declared.faults.AddFault.{AddFault}
use Rattle.cd_registry.specs.declared.kinds.Kinds.{Kinds}
use Rattle.cd_registry.specs.declared.kinds.TheConstants.Kinds.{CONFIGURE, WRITE}
use Rattle.cd_registry.specs.declared.member.MemberOf.TheVariants as members
use Rattle.cd_registry.specs.declared.plug.PlugTells.{PlugTells}
use Rattle.std.proofs.Common.{Bool, Err, IfSome, List, None, Ok, Option, Result, Some, [], ap, append-nil, arith, bit_and, cond, drop, eq-eqb, false, length, map, nat_eq, not, refl, slice_get, subst, sym, true, ℕ, ◌++◌, ◌<◌, ◌==◌, ◌∙◌, ◌∷◌, ◌≡◌}
use Rattle.std.proofs.lemmas.Bool.{ne_eqb}
use Rattle.std.proofs.lemmas.List.{length-map, map-append}
use Rattle.std.proofs.lemmas.Option.{slice_get_within}
use Rattle.std.specs.List.{filter}

-- the last row is changed
last_row : (rows : List Row) (row : Row) (step : Row → Row) → with_row (length rows) step (rows ++ row ∷ []) ≡ rows ++ step row ∷ []
last_row [] row step = refl
last_row (first ∷ rows) row step = ap (λ (more : List Row). first ∷ more) (last_row rows row step)

-- ---- one more is registered

module _ (K : Opening) (P : History) (legal : IsLegal K P) (actor : ℕ) (name : List ℕ) (kinds : Kinds) (config : List ℕ) (told : PlugTells) where
  abbrev count : ℕ
  count = length (registrations P)

  abbrev joined : Joining
  joined = joinings.Plug kinds config told

  abbrev event : Event
  event = entry.Register actor name joined (Ok count)

  abbrev new : Registration
  new = record { number = count; name = name; joining = joined }

  abbrev configures : Bool
  configures = bit_and kinds.0 CONFIGURE.0 == CONFIGURE.0

  abbrev writes : Bool
  writes = bit_and kinds.0 WRITE.0 == WRITE.0

  abbrev is_new : Row
  is_new = new_row name kinds.0 (members.Plug told)

  abbrev posted_row : Row
  posted_row = cond configures (after_post (calls.Configure config) is_new) is_new

  -- the rows of the others stay
  others : map (row_after K (P ▸ event)) (registrations P) ≡ rows_after K P
  others = map_each (row_after K (P ▸ event)) (row_after K P) (registrations P) (λ i g at. one i g at)
    where
      one : (i : ℕ) (g : Registration) → slice_get (registrations P) i ≡ Some g → row_after K (P ▸ event) g ≡ row_after K P g
      one i g at =
          let is : g.number ≡ i = number_at number_of (registrations P) i g (numbered P) at in
          let below : i < count = slice_get_within (registrations P) i g at in
          let other : nat_eq count g.number ≡ false = ne_eqb count g.number (λ e. omega arith) in
          ap (λ (more : List Call). row_with K P g (calls_to K g.number P ++ more)) (configured_alone g.number count joined other)
          ∙ ap (row_with K P g) (append-nil (calls_to K g.number P))

  -- a row by what is said of its number
  abbrev row_by : Bool → Bool → ℕ → Option ℕ → List AnsweredCall → List Call → Row
  row_by closed retired taken nobody given made = record {
    name = name;
    kinds = kinds.0;
    live = not closed;
    place = place_by retired nobody (home_with joined given);
    waiting = drop taken made;
  }

  its_calls : (b : Bool) → sent_to count (cond b (record { reg = count; call = calls.Configure config } ∷ []) []) ≡ cond b (calls.Configure config ∷ []) []
  its_calls true = rw (eq-eqb count count refl) refl
  its_calls false = refl

  its_row : (b : Bool) → row_by false false 0 None [] ([] ++ cond b (calls.Configure config ∷ []) []) ≡ cond b (after_post (calls.Configure config) is_new) is_new
  its_row true = refl
  its_row false = refl

  -- and the new one waits to be configured, where it is to be
  newest : row_after K (P ▸ event) new ≡ posted_row
  newest =
      let f = fresh K count P legal (omega arith) in
      ap (λ (x : Bool). row_by x (is_retired count P) (takes count P) (taken_by count P) (answered count P) (calls_to K count P ++ sent_to count (configuring count joined))) f.closed
      ∙ ap (λ (x : Bool). row_by false x (takes count P) (taken_by count P) (answered count P) (calls_to K count P ++ sent_to count (configuring count joined))) f.retired
      ∙ ap (λ (x : ℕ). row_by false false x (taken_by count P) (answered count P) (calls_to K count P ++ sent_to count (configuring count joined))) f.taken
      ∙ ap (λ (x : Option ℕ). row_by false false 0 x (answered count P) (calls_to K count P ++ sent_to count (configuring count joined))) f.nobody
      ∙ ap (λ (x : List AnsweredCall). row_by false false 0 None x (calls_to K count P ++ sent_to count (configuring count joined))) f.none_answered
      ∙ ap (λ (x : List Call). row_by false false 0 None [] (x ++ sent_to count (configuring count joined))) f.none_made
      ∙ ap (λ (x : List Call). row_by false false 0 None [] ([] ++ x)) (its_calls configures)
      ∙ its_row configures

  pub rows_registered : rows_after K (P ▸ event) ≡ rows_after K P ++ posted_row ∷ []
  rows_registered =
      map-append (row_after K (P ▸ event)) (registrations P) (new ∷ [])
      ∙ ap (λ (rows : List Row). rows ++ row_after K (P ▸ event) new ∷ []) others
      ∙ ap (λ (row : Row). rows_after K P ++ row ∷ []) newest

  its_number : (closed writes : Bool) → closed ≡ false → has_kind WRITE new ≡ writes
      → map number_of (filter (has_kind WRITE) (cond (not closed) (new ∷ []) [])) ≡ cond writes (count ∷ []) []
  its_number true w c k = absurd (cc)
  its_number false true c k = rw k refl
  its_number false false c k = rw k refl

  pub writers_registered : writers_after (P ▸ event) ≡ writers_after P ++ cond writes (count ∷ []) []
  writers_registered =
      let open_ones : Registration → Bool = λ (g : Registration). not (is_closed g.number P) in
      ap (λ (gs : List Registration). map number_of (filter (has_kind WRITE) gs)) (filter_append open_ones (registrations P) (new ∷ []))
      ∙ ap (map number_of) (filter_append (has_kind WRITE) (live P) (filter open_ones (new ∷ [])))
      ∙ map-append number_of (filter (has_kind WRITE) (live P)) (filter (has_kind WRITE) (filter open_ones (new ∷ [])))
      ∙ ap (λ (ns : List ℕ). writers_after P ++ ns) (its_number (is_closed count P) writes (fresh K count P legal (omega arith)).closed refl)

pub welcomed : (v w : CoreSeen) (mid : List Row) (before : List ℕ) (actor reg : ℕ) (name : List ℕ) (kinds : Kinds) (config : List ℕ) (told : PlugTells)
    → v.stopped ≡ false → None ≡ add_fault name v.rows → reg ≡ length v.rows → mid ≡ v.rows ++ new_row name kinds.0 (members.Plug told) ∷ [] → before ≡ v.writers
    → w ≡ record v {
      rows = cond (bit_and kinds.0 16 == 16) (with_row reg (after_post (calls.Configure config)) mid) mid;
      writers = before ++ cond (bit_and kinds.0 1 == 1) (reg ∷ []) [];
    }
    → Makes v w Anyhow (entry.Register actor name (joinings.Plug kinds config told) (Ok reg))
welcomed v w mid before actor reg name kinds config told going fault number added kept same K P s any =
    let R : List Row = rows_after K P in
    let n : ℕ = length (registrations P) in
    let all : length R ≡ n = length-map (registrations P) (row_after K P) in
    let is : reg ≡ n = number ∙ ap length s.rows ∙ all in
    let answer : register_answer P name ≡ Ok n =
    answer_is K P name (sym s.stopped ∙ going) ∙ ap (λ (o : Option AddFault). answer_by o n) (sym (fault ∙ ap (add_fault name) s.rows)) in
    let E : ℕ → Type 0 = λ m. Stands K w (P ▸ entry.Register actor name (joinings.Plug kinds config told) (Ok m)) in
    let writes : Bool = bit_and kinds.0 1 == 1 in
    subst E (sym is) (record {
      legal = (s.legal, sym answer);
      opening = ap (λ (x : CoreSeen). x.opening) same ∙ s.opening;
      cache = ap (λ (x : CoreSeen). x.cache) same ∙ s.cache;
      limits = ap (λ (x : CoreSeen). x.limits) same ∙ s.limits;
      queue = ap (λ (x : CoreSeen). x.queue) same ∙ s.queue;
      rows = ap (λ (x : CoreSeen). x.rows) same
          ∙ ap (λ (m : ℕ). cond (bit_and kinds.0 16 == 16) (with_row m (after_post (calls.Configure config)) mid) mid) (is ∙ sym all)
          ∙ ap (λ (rows : List Row). cond (bit_and kinds.0 16 == 16) (with_row (length R) (after_post (calls.Configure config)) rows) rows)
          (added ∙ ap (λ (rows : List Row). rows ++ new_row name kinds.0 (members.Plug told) ∷ []) s.rows)
          ∙ its (bit_and kinds.0 16 == 16) R
          ∙ sym (rows_registered K P s.legal actor name kinds config told);
      writers = ap (λ (x : CoreSeen). x.writers) same
          ∙ ap (λ (m : ℕ). before ++ cond writes (m ∷ []) []) is
          ∙ ap (λ (ns : List ℕ). ns ++ cond writes (n ∷ []) []) (kept ∙ s.writers)
          ∙ sym (writers_registered K P s.legal actor name kinds config told);
      flushes = ap (λ (x : CoreSeen). x.flushes) same ∙ s.flushes;
      begun = ap (λ (x : CoreSeen). x.begun) same ∙ s.begun;
      stopped = ap (λ (x : CoreSeen). x.stopped) same ∙ s.stopped;
    })
  where
    its : (b : Bool) (R : List Row)
        → cond b (with_row (length R) (after_post (calls.Configure config)) (R ++ new_row name kinds.0 (members.Plug told) ∷ [])) (R ++ new_row name kinds.0 (members.Plug told) ∷ [])
        ≡ R ++ cond b (after_post (calls.Configure config) (new_row name kinds.0 (members.Plug told))) (new_row name kinds.0 (members.Plug told)) ∷ []
    its true R = last_row R (new_row name kinds.0 (members.Plug told)) (after_post (calls.Configure config))
    its false R = refl

-- ---- none is registered

pub not_welcomed : (v : CoreSeen) (rows : List Row) (writers : List ℕ) (name : List ℕ) (joining : Joining) (why : AddFault) (shown : RegisterFault) → rows ≡ v.rows → writers ≡ v.writers → v.stopped ≡ false
    → named_fault why ≡ add_fault name v.rows → shown ≡ as_register_fault why
    → IfSome (register_refusal shown) (λ reply. (actor : ℕ) → Makes v (record v { rows = rows; writers = writers }) Anyhow (entry.Register actor name joining reply))
not_welcomed v rows writers name joining why shown same kept going fault is =
    let S : RegisterFault → Type 0 = λ f. IfSome (register_refusal f) (λ reply. (actor : ℕ) → Makes v (record v { rows = rows; writers = writers }) Anyhow (entry.Register actor name joining reply)) in
    let W : List ℕ → Type 0 = λ ns. IfSome (register_refusal (as_register_fault why)) (λ reply. (actor : ℕ) → Makes v (record v { rows = rows; writers = ns }) Anyhow (entry.Register actor name joining reply)) in
    subst S (sym is) (subst W (sym kept) (by why fault))
  where
    refusing : (reply : Result ℕ Refusal) (o : Option AddFault) → o ≡ add_fault name v.rows → ((n : ℕ) → answer_by o n ≡ reply)
        → (K : Opening) (P : History) → Stands K v P → reply ≡ register_answer P name
    refusing reply o fault says K P s =
        sym (says (length (registrations P))) ∙ ap (λ (o : Option AddFault). answer_by o (length (registrations P))) (fault ∙ ap (add_fault name) s.rows) ∙ sym (answer_is K P name (sym s.stopped ∙ going))

    by : (why : AddFault) → named_fault why ≡ add_fault name v.rows
        → IfSome (register_refusal (as_register_fault why)) (λ reply. (actor : ℕ) → Makes v (record v { rows = rows }) Anyhow (entry.Register actor name joining reply))
    by add.Reserved fault = λ actor K P s any. quiet K v rows P (entry.Register actor name joining (Err refused.Reserved)) same s
        (refusing (Err refused.Reserved) (Some add.Reserved) fault (λ n. refl) K P s) refl refl (rows_quiet K P) refl refl refl refl
    by (add.NameTaken r) fault = λ actor K P s any. quiet K v rows P (entry.Register actor name joining (Err (refused.NameTaken r))) same s
        (refusing (Err (refused.NameTaken r)) (Some (add.NameTaken r)) fault (λ n. refl) K P s) refl refl (rows_quiet K P) refl refl refl refl
    by add.TableFull fault = λ actor K P s any. quiet K v rows P (entry.Register actor name joining (Err refused.TableFull)) same s
        (refusing (Err refused.TableFull) (Some add.TableFull) fault (λ n. refl) K P s) refl refl (rows_quiet K P) refl refl refl refl
    by add.Memory fault = tt
