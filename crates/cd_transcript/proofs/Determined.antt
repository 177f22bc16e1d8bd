-- The rules of a run allow one history alone.
use Rattle.cd_daemon.specs.Answers.{accept_answer, flush_close_answer, flush_open_answer, handle_answer, is_idle, next_call, query_answer, ready}
use Rattle.cd_daemon.specs.declared.Opening.{Opening}
use Rattle.cd_history.specs.History.{History, handles, kept, ◌▸◌}
use Rattle.cd_history.specs.Registrations.{live}
use Rattle.cd_history.specs.declared.entry.Entry.TheVariants as entry
use Rattle.cd_history.specs.declared.entry.Why.TheVariants as why
use Rattle.cd_history.specs.declared.given.Given.TheVariants.{Answered, Now, Word}
use Rattle.cd_history.specs.declared.given.Given.{Given}
use Rattle.cd_registry.specs.declared.calls.Answer.{Answer}
use Rattle.cd_registry.specs.declared.calls.Call.{Call}
use Rattle.cd_sock.specs.declared.command.Command.TheVariants as command
use Rattle.cd_transcript.specs.LineRuns.{IsAsked, IsLineRun, Loaded, Opens, ServesLine, ServesLines, Works, WorksUntilIdle, all_handed_out, blank, called, flushed, got, handled, listed, none, none as opened_all, nothing, one_more, plug_in, put, refused}
use Rattle.cd_transcript.specs.Transcripts.{Said}
use Rattle.cd_value.specs.Identifier.{Fields, name_of}
use Rattle.cd_value.specs.declared.data.FlushRequest.{FlushRequest}
use Rattle.cd_value.specs.declared.data.ValueList.{ValueList}
use Rattle.std.proofs.Common.{Bool, IsTrue, List, None, Ok, Option, Some, [], ap, append_assoc, arith, false, is_some, length, map, nat_le, not, refl, subst, sym, true, ℕ, ◌&&◌, ◌++◌, ◌<◌, ◌∙◌, ◌∷◌, ◌≡◌, ◌≤◌}
use Rattle.std.proofs.lemmas.Bool.{leb-true}
use Rattle.std.proofs.lemmas.List.{append-nil}

-- two lists that begin alike go on alike
cancel : {A : Type 0} (xs ys zs : List A) → xs ++ ys ≡ xs ++ zs → ys ≡ zs
cancel [] ys zs e = e
cancel (x ∷ xs) ys zs e = let rest : xs ++ ys ≡ xs ++ zs = cc in cancel xs ys zs rest

-- two parts took the same of what was given and left the same
pub record Same (given given' : List Given) (Q Q' : History) : Type 0 where
  pub gifts : given ≡ given'
  pub history : Q ≡ Q'

-- ---- the opening

opens_alike : {loaded : List Loaded} {P Q Q' : History} {given given' : List Given} → Opens loaded P given Q → Opens loaded P given' Q' → Same given given' Q Q'
opens_alike opened_all opened_all = record { gifts = refl; history = refl }
opens_alike (plug_in o) (plug_in o') = opens_alike o o'

-- ---- work, from its first step on

module _ (K : Opening) where
  data Goes : History → List Given → History → Type 0 where
    stays : {P : History} → Goes P [] P
    calls : {P Q : History} {given : List Given} {r : ℕ} {call : Call} {answer : Answer}
        → ready K P ≡ Some r → next_call K P r ≡ Some call → Goes (P ▸ entry.Take 0 r call ▸ entry.Done 0 r answer) given Q → Goes P (Answered answer ∷ given) Q
    handles_one : {P Q : History} {given : List Given} {now : ℕ}
        → ready K P ≡ None → handles P < length (kept P) → Goes (P ▸ entry.Handle 0 now (handle_answer K P now)) given Q → Goes P (Now now ∷ given) Q

  then_calls : {P Q : History} {given : List Given} (r : ℕ) (call : Call) (answer : Answer) → Goes P given Q → ready K Q ≡ Some r → next_call K Q r ≡ Some call
      → Goes P (given ++ Answered answer ∷ []) (Q ▸ entry.Take 0 r call ▸ entry.Done 0 r answer)
  then_calls r call answer stays is next = calls is next stays
  then_calls r call answer (calls a b g) is next = calls a b (then_calls r call answer g is next)
  then_calls r call answer (handles_one a b g) is next = handles_one a b (then_calls r call answer g is next)

  then_handles : {P Q : History} {given : List Given} (now : ℕ) → Goes P given Q → ready K Q ≡ None → handles Q < length (kept Q)
      → Goes P (given ++ Now now ∷ []) (Q ▸ entry.Handle 0 now (handle_answer K Q now))
  then_handles now stays is within = handles_one is within stays
  then_handles now (calls a b g) is within = calls a b (then_handles now g is within)
  then_handles now (handles_one a b g) is within = handles_one a b (then_handles now g is within)

  goes : {P Q : History} {given : List Given} → Works K IsAsked P given Q → Goes P given Q
  goes nothing = stays
  goes (called {r = r} {call = call} {answer = answer} w is next) = then_calls r call answer (goes w) is next
  goes {P = P} (handled {Q = Q} {given = given} {took = took} {now = now} w is within at) =
      let G : List Given → Type 0 = λ last. Goes P (given ++ last) (Q ▸ entry.Handle 0 now (handle_answer K Q now)) in
      subst G (sym at) (then_handles now (goes w) is within)

  idle_ready : (P : History) (r : ℕ) → IsTrue (is_idle K P) → ready K P ≡ Some r → ⊥
  idle_ready P r idle is =
      let I : Option ℕ → Type 0 = λ o. IsTrue (nat_le (length (kept P)) (handles P) && not (is_some o)) in
      never (nat_le (length (kept P)) (handles P)) (subst I is idle)
    where
      never : (t : Bool) → IsTrue (t && false) → ⊥
      never true h = absurd (cc)
      never false h = absurd (cc)

  idle_within : (P : History) → IsTrue (is_idle K P) → handles P < length (kept P) → ⊥
  idle_within P idle within = by (nat_le (length (kept P)) (handles P)) refl idle
    where
      by : (t : Bool) → nat_le (length (kept P)) (handles P) ≡ t → IsTrue (t && not (is_some (ready K P))) → ⊥
      by true is h = let le : length (kept P) ≤ handles P = leb-true (length (kept P)) (handles P) is in absurd (omega (arith, le, within))
      by false is h = absurd (cc)

  goes_alike : {P Q Q' : History} {given given' : List Given} (more more' : List Given) → Goes P given Q → Goes P given' Q' → IsTrue (is_idle K Q) → IsTrue (is_idle K Q')
      → given ++ more ≡ given' ++ more' → Same given given' Q Q'
  goes_alike more more' stays stays idle idle' e = record { gifts = refl; history = refl }
  goes_alike {P = P} more more' stays (calls {r = r} a b g) idle idle' e = absurd (idle_ready P r idle a)
  goes_alike {P = P} more more' stays (handles_one a b g) idle idle' e = absurd (idle_within P idle b)
  goes_alike {P = P} more more' (calls {r = r} a b g) stays idle idle' e = absurd (idle_ready P r idle' a)
  goes_alike {P = P} {Q' = Q'} more more' (calls {given = given} {r = r} {call = call} {answer = answer} a b g) (calls {given = given'} {r = r'} {call = call'} {answer = answer'} a' b' g') idle idle' e =
      let same_r : r' ≡ r = cc in
      let B : ℕ → Type 0 = λ x. next_call K P x ≡ Some call' in
      let next : next_call K P r ≡ Some call' = subst B same_r b' in
      let same_call : call' ≡ call = cc in
      let same_answer : answer' ≡ answer = cc in
      let rest : given ++ more ≡ given' ++ more' = cc in
      let G : ℕ → Type 0 = λ x. Goes (P ▸ entry.Take 0 x call' ▸ entry.Done 0 x answer') given' Q' in
      let C : Call → Type 0 = λ x. Goes (P ▸ entry.Take 0 r x ▸ entry.Done 0 r answer') given' Q' in
      let A : Answer → Type 0 = λ x. Goes (P ▸ entry.Take 0 r call ▸ entry.Done 0 r x) given' Q' in
      let same = goes_alike more more' g (subst A same_answer (subst C same_call (subst G same_r g'))) idle idle' rest in
      record { gifts = ap (λ (x : Answer). Answered x ∷ given) (sym same_answer) ∙ ap (λ (xs : List Given). Answered answer' ∷ xs) same.gifts; history = same.history }
  goes_alike more more' (calls a b g) (handles_one a' b' g') idle idle' e = absurd (cc)
  goes_alike {P = P} more more' (handles_one a b g) stays idle idle' e = absurd (idle_within P idle' b)
  goes_alike more more' (handles_one a b g) (calls a' b' g') idle idle' e = absurd (cc)
  goes_alike {P = P} {Q' = Q'} more more' (handles_one {given = given} {now = now} a b g) (handles_one {given = given'} {now = now'} a' b' g') idle idle' e =
      let same_now : now' ≡ now = cc in
      let rest : given ++ more ≡ given' ++ more' = cc in
      let G : ℕ → Type 0 = λ x. Goes (P ▸ entry.Handle 0 x (handle_answer K P x)) given' Q' in
      let same = goes_alike more more' g (subst G same_now g') idle idle' rest in
      record { gifts = ap (λ (x : ℕ). Now x ∷ given) (sym same_now) ∙ ap (λ (xs : List Given). Now now' ∷ xs) same.gifts; history = same.history }

  pub works_alike : {P Q Q' : History} {given given' : List Given} (more more' : List Given) → WorksUntilIdle K IsAsked P given Q → WorksUntilIdle K IsAsked P given' Q'
      → given ++ more ≡ given' ++ more' → Same given given' Q Q'
  works_alike more more' w w' e = goes_alike more more' (goes w.works) (goes w'.works) w.idle w'.idle e

-- ---- lines

words_alike : (ws ws' : List ℕ) (xs ys : List Given) → length ws ≡ length ws' → map Word ws ++ xs ≡ map Word ws' ++ ys → (ws ≡ ws') × (xs ≡ ys)
words_alike [] [] xs ys many e = (refl, e)
words_alike [] (w ∷ ws') xs ys many e = absurd (omega (arith, many))
words_alike (w ∷ ws) [] xs ys many e = absurd (omega (arith, many))
words_alike (w ∷ ws) (w' ∷ ws') xs ys many e =
    let first : w ≡ w' = cc in
    let tail : map Word ws ++ xs ≡ map Word ws' ++ ys = cc in
    let few : length ws ≡ length ws' = omega (arith, many) in
    let rest = words_alike ws ws' xs ys few tail in
    (ap (λ (x : ℕ). x ∷ ws) first ∙ ap (λ (xs : List ℕ). w' ∷ xs) rest.0, rest.1)

-- what follows one moment and then work
module _ (K : Opening) where
  work_alike : {P Q Q' : History} {given given' : List Given} (n n' : ℕ) (more more' : List Given)
      → WorksUntilIdle K IsAsked P given Q → WorksUntilIdle K IsAsked P given' Q'
      → (Now n ∷ given) ++ more ≡ (Now n' ∷ given') ++ more' → Same (Now n ∷ given) (Now n' ∷ given') Q Q'
  work_alike {given = given} {given' = given'} n n' more more' w w' e =
      let same : n ≡ n' = cc in
      let rest : given ++ more ≡ given' ++ more' = cc in
      let alike = works_alike K more more' w w' rest in
      record { gifts = ap (λ (x : ℕ). Now x ∷ given) same ∙ ap (λ (xs : List Given). Now n' ∷ xs) alike.gifts; history = alike.history }

module _ {Line : Type 0} (K : Opening) (says : Line → ℕ → Said) where
  line_alike : {l : Line} {P Q Q' : History} {given given' : List Given} (more more' : List Given) → ServesLine K says l P given Q → ServesLine K says l P given' Q'
      → given ++ more ≡ given' ++ more' → Same given given' Q Q'
  line_alike more more' (blank a) (blank b) e = record { gifts = refl; history = refl }
  line_alike more more' (blank a) (refused b v) e = absurd (cc)
  line_alike more more' (blank a) (put b c d v) e = absurd (cc)
  line_alike more more' (blank a) (got b v) e = absurd (cc)
  line_alike more more' (blank a) (listed b v) e = absurd (cc)
  line_alike more more' (blank a) (flushed b o v) e = absurd (cc)
  line_alike more more' (refused a w) (blank b) e = absurd (cc)
  line_alike more more' (refused {now = n} a w) (refused {now = n'} b v) e = work_alike K n n' more more' w v e
  line_alike more more' (refused a w) (put b c d v) e = absurd (cc)
  line_alike more more' (refused a w) (got b v) e = absurd (cc)
  line_alike more more' (refused a w) (listed b v) e = absurd (cc)
  line_alike more more' (refused a w) (flushed b o v) e = absurd (cc)
  line_alike more more' (put a c d w) (blank b) e = absurd (cc)
  line_alike more more' (put a c d w) (refused b v) e = absurd (cc)
  line_alike {l = l} {P = P} {Q' = Q'} more more' (put {now = n} {lists = lists} {words = ws} {given = g} a c d w) (put {now = n'} {lists = lists'} {words = ws'} {given = g'} a' c' d' w') e =
      let same_now : n' ≡ n = cc in
      let C : ℕ → Type 0 = λ x. says l x ≡ Ok (command.PutVal lists') in
      let said : says l n ≡ Ok (command.PutVal lists') = subst C same_now c' in
      let same_lists : lists' ≡ lists = cc in
      let many : length ws ≡ length ws' = d ∙ ap length (sym same_lists) ∙ sym d' in
      let tails : (map Word ws ++ g) ++ more ≡ (map Word ws' ++ g') ++ more' = cc in
      let both = words_alike ws ws' (g ++ more) (g' ++ more') many (sym (append_assoc (map Word ws) g more) ∙ tails ∙ append_assoc (map Word ws') g' more') in
      let N : ℕ → Type 0 = λ x. WorksUntilIdle K IsAsked (P ▸ entry.Accept 0 lists' ws' x (accept_answer K P ws')) g' Q' in
      let L : List ValueList → Type 0 = λ x. WorksUntilIdle K IsAsked (P ▸ entry.Accept 0 x ws' n (accept_answer K P ws')) g' Q' in
      let W : List ℕ → Type 0 = λ x. WorksUntilIdle K IsAsked (P ▸ entry.Accept 0 lists x n (accept_answer K P x)) g' Q' in
      let same = works_alike K more more' w (subst W (sym both.0) (subst L same_lists (subst N same_now w'))) both.1 in
      record {
        gifts = ap (λ (x : ℕ). Now x ∷ map Word ws ++ g) (sym same_now) ∙ ap (λ (xs : List ℕ). Now n' ∷ map Word xs ++ g) both.0 ∙ ap (λ (xs : List Given). Now n' ∷ map Word ws' ++ xs) same.gifts;
        history = same.history;
      }
  line_alike more more' (put a c d w) (got b v) e = absurd (cc)
  line_alike more more' (put a c d w) (listed b v) e = absurd (cc)
  line_alike more more' (put a c d w) (flushed b o v) e = absurd (cc)
  line_alike more more' (got a w) (blank b) e = absurd (cc)
  line_alike more more' (got a w) (refused b v) e = absurd (cc)
  line_alike more more' (got a w) (put b c d v) e = absurd (cc)
  line_alike {P = P} {Q' = Q'} more more' (got {now = n} {id = id} a w) (got {now = n'} {id = id'} {given = g'} b v) e =
      let same_id : id' ≡ id = cc in
      let I : Fields → Type 0 = λ x. WorksUntilIdle K IsAsked (P ▸ entry.Query 0 (Some (name_of x)) (query_answer K P (Some (name_of x)))) g' Q' in
      work_alike K n n' more more' w (subst I same_id v) e
  line_alike more more' (got a w) (listed b v) e = absurd (cc)
  line_alike more more' (got a w) (flushed b o v) e = absurd (cc)
  line_alike more more' (listed a w) (blank b) e = absurd (cc)
  line_alike more more' (listed a w) (refused b v) e = absurd (cc)
  line_alike more more' (listed a w) (put b c d v) e = absurd (cc)
  line_alike more more' (listed a w) (got b v) e = absurd (cc)
  line_alike more more' (listed {now = n} a w) (listed {now = n'} b v) e = work_alike K n n' more more' w v e
  line_alike more more' (listed a w) (flushed b o v) e = absurd (cc)
  line_alike more more' (flushed a o w) (blank b) e = absurd (cc)
  line_alike more more' (flushed a o w) (refused b v) e = absurd (cc)
  line_alike more more' (flushed a o w) (put b c d v) e = absurd (cc)
  line_alike more more' (flushed a o w) (got b v) e = absurd (cc)
  line_alike more more' (flushed a o w) (listed b v) e = absurd (cc)
  line_alike {P = P} more more' (flushed {Q = Q} {now = n} {number = k} {request = request} a o w) (flushed {Q = Q'} {now = n'} {number = k'} {request = request'} {given = g'} a' o' w') e =
      let same_request : request' ≡ request = cc in
      let same_number : k ≡ k' = cc in
      let R : FlushRequest → Type 0 = λ x. WorksUntilIdle K IsAsked (P ▸ entry.FlushOpen 0 x (flush_open_answer P)) g' Q' in
      let same = work_alike K n n' more more' w (subst R same_request w') e in
      record {
        gifts = same.gifts;
        history =
            ap (λ (h : History). h ▸ entry.FlushClose 0 k (flush_close_answer h k)) same.history
            ∙ ap (λ (x : ℕ). Q' ▸ entry.FlushClose 0 x (flush_close_answer Q' x)) same_number;
      }

  -- ---- lines, from the first on

  data Each : List Line → History → List Given → History → Type 0 where
    no_more : {P : History} → Each [] P [] P
    and_then : {l : Line} {lines : List Line} {P Q R : History} {first given : List Given} → ServesLine K says l P first Q → Each lines Q given R → Each (l ∷ lines) P (first ++ given) R

  then_line : {l : Line} {lines : List Line} {P Q R : History} {given last : List Given} → Each lines P given Q → ServesLine K says l Q last R → Each (lines ++ l ∷ []) P (given ++ last) R
  then_line {l = l} {P = P} {R = R} {last = last} no_more s = let E : List Given → Type 0 = λ g. Each (l ∷ []) P g R in subst E (append-nil last) (and_then s no_more)
  then_line {l = l} {P = P} {R = R} {last = last} (and_then {l = head} {lines = lines} {first = first} {given = given} f e) s =
      let E : List Given → Type 0 = λ g. Each (head ∷ (lines ++ l ∷ [])) P g R in
      subst E (sym (append_assoc first given last)) (and_then f (then_line e s))

  each : {lines : List Line} {P Q : History} {given : List Given} → ServesLines K says lines P given Q → Each lines P given Q
  each none = no_more
  each (one_more s l) = then_line (each s) l

  each_alike : {lines : List Line} {P Q Q' : History} {given given' : List Given} (more more' : List Given) → Each lines P given Q → Each lines P given' Q'
      → given ++ more ≡ given' ++ more' → Same given given' Q Q'
  each_alike more more' no_more no_more e = record { gifts = refl; history = refl }
  each_alike {P = P} {Q' = R'} more more' (and_then {lines = lines} {Q = Q} {first = f} {given = g} s r) (and_then {Q = Q'} {first = f'} {given = g'} s' r') e =
      let whole : f ++ (g ++ more) ≡ f' ++ (g' ++ more') = sym (append_assoc f g more) ∙ e ∙ append_assoc f' g' more' in
      let one = line_alike (g ++ more) (g' ++ more') s s' whole in
      let tail : g ++ more ≡ g' ++ more' = cancel f (g ++ more) (g' ++ more') (whole ∙ ap (λ (x : List Given). x ++ (g' ++ more')) (sym one.gifts)) in
      let E : History → Type 0 = λ h. Each lines h g' R' in
      let rest = each_alike more more' r (subst E (sym one.history) r') tail in
      record { gifts = ap (λ (x : List Given). x ++ g) one.gifts ∙ ap (λ (x : List Given). f' ++ x) rest.gifts; history = rest.history }

  -- the loaded plug-ins, the lines and what was given make one history
  pub one_history : {loaded : List Loaded} {lines : List Line} {given : List Given} {H H' : History} → IsLineRun K says loaded lines given H → IsLineRun K says loaded lines given H' → H ≡ H'
  one_history {lines = lines} r r' =
      let first = opens_alike r.opens r'.opens in
      let S : History → Type 0 = λ h. ServesLines K says lines h r'.given_lines r'.served in
      let both : r.given_lines ++ r.given_last ≡ r'.given_lines ++ r'.given_last =
      cancel r.given_first (r.given_lines ++ r.given_last) (r'.given_lines ++ r'.given_last)
      (sym r.given_is ∙ r'.given_is ∙ ap (λ (x : List Given). x ++ (r'.given_lines ++ r'.given_last)) (sym first.gifts)) in
      let lines_same = each_alike r.given_last r'.given_last (each r.serves) (each (subst S (sym first.history) r'.serves)) both in
      let tail : r.given_last ≡ r'.given_last = cancel r.given_lines r.given_last r'.given_last (both ∙ ap (λ (x : List Given). x ++ r'.given_last) (sym lines_same.gifts)) in
      let W : History → Type 0 = λ h. WorksUntilIdle K IsAsked (h ▸ entry.Stop 0 why.ControlEnd) r'.given_last r'.stopped in
      let last = works_alike K [] [] r.stops (subst W (sym lines_same.history) r'.stops) (ap (λ (x : List Given). x ++ []) tail) in
      r.hands_out ∙ ap (λ (h : History). all_handed_out K (live h) h) last.history ∙ sym r'.hands_out
