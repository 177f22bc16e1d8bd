-- What is out of a core stays so in each step, until it is given home.
use Rattle.cd_core.proofs.Lasting.{out_in_core, stays_out}
use Rattle.cd_core.specs.Objects.{IsEntered, IsLent}
use Rattle.cd_core.specs.Replies.{accept_reply, begin_reply, register_reply}
use Rattle.cd_core.specs.Seen.{CoreSeen}
use Rattle.cd_core.specs.Stands.{Anyhow, Makes, Stands}
use Rattle.cd_core.specs.Steps.{is_home_of}
use Rattle.cd_core.specs.declared.faults.AcceptFault.{AcceptFault}
use Rattle.cd_core.specs.declared.faults.FlushFault.{FlushFault}
use Rattle.cd_core.specs.declared.faults.HandleFault.{HandleFault}
use Rattle.cd_core.specs.declared.faults.RegisterFault.{RegisterFault}
use Rattle.cd_core_walk.specs.Out.{AreOut, IsOut}
use Rattle.cd_daemon.specs.Flushes.{flush_begun_by}
use Rattle.cd_daemon.specs.Legal.{Allowed}
use Rattle.cd_daemon.specs.declared.Opening.{Opening}
use Rattle.cd_history.specs.History.{Event, History, ◌▸◌}
use Rattle.cd_history.specs.Registrations.{closed_by}
use Rattle.cd_history.specs.declared.entry.Entry.TheVariants as entry
use Rattle.cd_history.specs.declared.entry.FlushEnd.{FlushEnd}
use Rattle.cd_history.specs.declared.entry.Handled.{Handled}
use Rattle.cd_history.specs.declared.entry.Joining.{Joining}
use Rattle.cd_registry.specs.Rows.{At, IsPlugOut}
use Rattle.cd_registry.specs.Told.{told_after}
use Rattle.cd_registry.specs.declared.calls.Answer.{Answer}
use Rattle.cd_registry.specs.declared.calls.Call.{Call}
use Rattle.cd_registry.specs.declared.faults.RetireFault.{RetireFault}
use Rattle.cd_registry.specs.declared.lease.LeaseOf.{LeaseOf}
use Rattle.cd_registry.specs.declared.plug.PlugTells.{PlugTells}
use Rattle.cd_value.specs.declared.data.FlushRequest.{FlushRequest}
use Rattle.cd_value.specs.declared.data.Offered.{Offered}
use Rattle.cd_value.specs.declared.data.ValueList.{ValueList}
use Rattle.cd_value.specs.declared.memory.Refused.{Refused}
use Rattle.std.proofs.Common.{Bool, Err, IfOk, IfSome, List, None, Ok, OnErr, Option, Result, Some, [], ap, drop, false, get_or, length, nat_eq, not, refl, subst, sym, take, true, ℕ, ◌++◌, ◌+◌, ◌<◌, ◌∙◌, ◌∷◌, ◌≡◌}
use Rattle.std.proofs.lemmas.List.Elements.{All-append, All-drop, All-push, All-take}
use Rattle.std.proofs.lemmas.List.Folds.{list_all_at}
use Rattle.std.specs.List.{All, list_all}
use Rattle.std.specs.Prelude.{unwrap_or}

-- who may ask: whoever closed or began it, or else anybody
owner : (o : Option ℕ) → IfSome o (λ a. a ≡ unwrap_or o 0)
owner None = tt
owner (Some a) = refl

module _ {P : Type 0} (tells : P → PlugTells) where
  -- nothing happened
  pub kept : (old new : CoreSeen) (leases : List (LeaseOf P)) → new ≡ old → AreOut tells old leases → AreOut tells new leases
  kept old new leases same h =
      let S : CoreSeen → Type 0 = λ core. Stands h.K core h.H in
      record { K = h.K; H = h.H; stands = subst S (sym same) h.stands; out = h.out }

  pub kept_as : (old new : CoreSeen) (leases same_leases : List (LeaseOf P)) → same_leases ≡ leases → new ≡ old → AreOut tells old leases → AreOut tells new same_leases
  kept_as old new leases same_leases is same h =
      let A : List (LeaseOf P) → Type 0 = AreOut tells new in subst A (sym is) (kept old new leases same h)

  -- those that are out stay so in an event with which none of them comes home
  stay : (K : Opening) (H : History) (leases : List (LeaseOf P)) (e : Event) → Allowed K H e → All (λ (l : LeaseOf P). is_home_of l.reg e ≡ false) leases
      → All (IsOut tells H) leases → All (IsOut tells (H ▸ e)) leases
  stay K H leases e may other out k d within =
      let l : LeaseOf P = get_or leases k d in
      let one : IsOut tells H l = out k d within in
      (one.0, stays_out K H one.0 l.reg l.call (tells l.object) one.1 e may (other k d within))

  -- such an event came
  after : (old new : CoreSeen) (leases : List (LeaseOf P)) (e : Event) (h : AreOut tells old leases) → Stands h.K new (h.H ▸ e) → All (λ (l : LeaseOf P). is_home_of l.reg e ≡ false) leases → AreOut tells new leases
  after old new leases e h stands other = record {
    K = h.K;
    H = h.H ▸ e;
    stands = stands;
    out = stay h.K h.H leases e stands.legal.1 other h.out;
  }

  pub made : (old new : CoreSeen) (leases : List (LeaseOf P)) (e : Event) → ((r : ℕ) → is_home_of r e ≡ false) → Makes old new Anyhow e → AreOut tells old leases → AreOut tells new leases
  made old new leases e other step h = after old new leases e h (step h.K h.H h.stands tt) (λ k d within. other (get_or leases k d).reg)

  pub retired : (old new : CoreSeen) (leases : List (LeaseOf P)) (reg : ℕ) (reply : Result (Unit {0}) RetireFault) → ((actor : ℕ) → Makes old new (λ K H. IfSome (closed_by reg H) (λ closer. closer ≡ actor)) (entry.Retire actor reg reply)) → AreOut tells old leases → AreOut tells new leases
  retired old new leases reg reply step h =
      let closer : Option ℕ = closed_by reg h.H in
      after old new leases (entry.Retire (unwrap_or closer 0) reg reply) h (step (unwrap_or closer 0) h.K h.H h.stands (owner closer)) (λ k d within. refl)

  pub flushed : (old new : CoreSeen) (leases : List (LeaseOf P)) (number : ℕ) (reply : FlushEnd) → ((actor : ℕ) → Makes old new (λ K H. IfSome (flush_begun_by number H) (λ beginner. beginner ≡ actor)) (entry.FlushClose actor number reply)) → AreOut tells old leases → AreOut tells new leases
  flushed old new leases number reply step h =
      let beginner : Option ℕ = flush_begun_by number h.H in
      after old new leases (entry.FlushClose (unwrap_or beginner 0) number reply) h (step (unwrap_or beginner 0) h.K h.H h.stands (owner beginner)) (λ k d within. refl)

  -- .. where the answer tells of one
  pub registered : {A : Type 0} (old new : CoreSeen) (leases : List (LeaseOf P)) (name : List ℕ) (joined : Joining) (result : Result ℕ (Refused A RegisterFault))
      → IfSome (register_reply result) (λ reply. (actor : ℕ) → Makes old new Anyhow (entry.Register actor name joined reply))
      → OnErr result (new ≡ old) → AreOut tells old leases → AreOut tells new leases
  registered old new leases name joined (Ok reg) step err h = made old new leases (entry.Register 0 name joined (Ok reg)) (λ r. refl) (step 0) h
  registered old new leases name joined (Err refused) step err h = kept old new leases err h

  pub accepted : {A : Type 0} (old new : CoreSeen) (leases : List (LeaseOf P)) (lists : List ValueList) (words : List ℕ) (now : ℕ) (result : Result (List Offered) (Refused A AcceptFault))
      → IfSome (accept_reply result) (λ reply. (actor : ℕ) → Makes old new Anyhow (entry.Accept actor lists words now reply))
      → OnErr result (new ≡ old) → AreOut tells old leases → AreOut tells new leases
  accepted old new leases lists words now (Ok fates) step err h = made old new leases (entry.Accept 0 lists words now (Ok fates)) (λ r. refl) (step 0) h
  accepted old new leases lists words now (Err refused) step err h = kept old new leases err h

  pub handled : (old new : CoreSeen) (leases : List (LeaseOf P)) (now : ℕ) (result : Result Handled HandleFault)
      → IfOk result (λ reply. (actor : ℕ) → Makes old new Anyhow (entry.Handle actor now reply))
      → OnErr result (new ≡ old) → AreOut tells old leases → AreOut tells new leases
  handled old new leases now (Ok reply) step err h = made old new leases (entry.Handle 0 now reply) (λ r. refl) (step 0) h
  handled old new leases now (Err why) step err h = kept old new leases err h

  pub flush_begun : (old new : CoreSeen) (leases : List (LeaseOf P)) (request : FlushRequest) (result : Result ℕ FlushFault)
      → IfSome (begin_reply result) (λ reply. (actor : ℕ) → Makes old new Anyhow (entry.FlushOpen actor request reply))
      → OnErr result (new ≡ old) → AreOut tells old leases → AreOut tells new leases
  flush_begun old new leases request (Ok number) step err h = made old new leases (entry.FlushOpen 0 request (Ok number)) (λ r. refl) (step 0) h
  flush_begun old new leases request (Err why) step err h = kept old new leases err h

  -- one more goes out
  pub taken : (old new : CoreSeen) (leases grown : List (LeaseOf P)) (actor : ℕ) (lease : LeaseOf P) → grown ≡ leases ++ lease ∷ [] → Makes old new Anyhow (entry.Take actor lease.reg lease.call)
      → ((K : Opening) (H : History) → Stands K old H → IsLent (H ▸ entry.Take actor lease.reg lease.call) actor lease.reg lease.call (tells lease.object))
      → AreOut tells old leases → AreOut tells new grown
  taken old new leases grown actor lease is step lent h =
      let A : List (LeaseOf P) → Type 0 = AreOut tells new in
      let e : Event = entry.Take actor lease.reg lease.call in
      let stands : Stands h.K new (h.H ▸ e) = step h.K h.H h.stands tt in
      subst A (sym is) (record {
        K = h.K;
        H = h.H ▸ e;
        stands = stands;
        out = All-push (IsOut tells (h.H ▸ e)) leases lease (stay h.K h.H leases e stands.legal.1 (λ k d within. refl) h.out) (actor, lent h.K h.H h.stands);
      })

  -- ---- one of them is given home

  -- the others are out still
  pub rest_out : (core : CoreSeen) (leases rest : List (LeaseOf P)) (at : ℕ) → rest ≡ take at leases ++ drop (at + 1) leases → AreOut tells core leases → AreOut tells core rest
  rest_out core leases rest at is h =
      let O : LeaseOf P → Type 0 = IsOut tells h.H in
      let A : List (LeaseOf P) → Type 0 = All O in
      record {
        K = h.K;
        H = h.H;
        stands = h.stands;
        out = subst A (sym is) (All-append O (take at leases) (drop (at + 1) leases) (All-take O at leases h.out) (All-drop O (at + 1) leases h.out));
      }

  -- .. and this one is
  module _ (core : CoreSeen) (leases : List (LeaseOf P)) (at : ℕ) (lease : LeaseOf P) (h : AreOut tells core leases) (within : at < length leases) (is : lease ≡ get_or leases at lease) where
    this_out : IsOut tells h.H lease
    this_out = let O : LeaseOf P → Type 0 = IsOut tells h.H in subst O (sym is) (h.out at lease within)

    pub out_there : (reg : ℕ) → reg ≡ lease.reg → At core.rows reg IsPlugOut
    out_there reg same =
        let R : ℕ → Type 0 = λ n. At core.rows n IsPlugOut in
        subst R (sym same) (out_in_core h.K core h.H this_out.0 lease.reg lease.call (tells lease.object) h.stands this_out.1)

    others : (reg : ℕ) (rest : List (LeaseOf P)) → list_all (λ (l : LeaseOf P). not (nat_eq reg l.reg)) rest ≡ true → All (λ (l : LeaseOf P). nat_eq reg l.reg ≡ false) rest
    others reg rest all k d inside = by (nat_eq reg (get_or rest k d).reg) refl
      where
        by : (b : Bool) → nat_eq reg (get_or rest k d).reg ≡ b → nat_eq reg (get_or rest k d).reg ≡ false
        by false same = same
        by true same =
            let found : list_all (λ (l : LeaseOf P). not (nat_eq reg l.reg)) rest ≡ false = list_all_at (λ (l : LeaseOf P). not (nat_eq reg l.reg)) rest k d inside (ap not same) in
            let both : true ≡ false = sym all ∙ found in
            absurd (cc)

    pub came_home : (new : CoreSeen) (rest shown : List (LeaseOf P)) (reg : ℕ) (call : Call) (answer : Answer) (told : PlugTells)
        → rest ≡ take at leases ++ drop (at + 1) leases
        → shown ≡ rest → list_all (λ (l : LeaseOf P). not (nat_eq lease.reg l.reg)) shown ≡ true
        → reg ≡ lease.reg → call ≡ lease.call → told ≡ told_after lease.call answer (tells lease.object)
        → ((actor : ℕ) → Makes core new (λ K H. IsEntered H actor reg call answer told) (entry.Done actor reg answer))
        → AreOut tells new rest
    unfolding rest_out
    came_home new rest shown reg call answer told parts same alone same_reg same_call tells_so step =
        let actor : ℕ = this_out.0 in
        let there : AreOut tells core rest = rest_out core leases rest at parts h in
        let E : ℕ → Call → Type 0 = λ r c. IsLent h.H actor r c (tells lease.object) in
        let lent : E reg call = subst (λ (r : ℕ). E r call) (sym same_reg) (subst (λ (c : Call). E lease.reg c) (sym same_call) this_out.1) in
        let T : Call → Type 0 = λ c. told ≡ told_after c answer (tells lease.object) in
        let entered : IsEntered h.H actor reg call answer told = record { before = tells lease.object; lent = lent; tells = subst T (sym same_call) tells_so } in
        let L : ℕ → Type 0 = λ r. list_all (λ (l : LeaseOf P). not (nat_eq r l.reg)) rest ≡ true in
        let R : List (LeaseOf P) → Type 0 = λ ls. list_all (λ (l : LeaseOf P). not (nat_eq lease.reg l.reg)) ls ≡ true in
        let apart : All (λ (l : LeaseOf P). nat_eq reg l.reg ≡ false) rest = others reg rest (subst L (sym same_reg) (subst R same alone)) in
        after core new rest (entry.Done actor reg answer) there (step actor h.K h.H h.stands entered) apart
