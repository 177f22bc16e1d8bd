-- A history and its events in the order in which they came: what holds of the one holds of the other.
use Rattle.cd_history.specs.History.{Event, History, actor_of, mine, ◌▸◌}
use Rattle.cd_history.specs.Order.{IsFrontOf, history_of}
use Rattle.std.proofs.Common.{Bool, List, [], ap, append_assoc, false, nat_eq, refl, sym, true, ℕ, ◌++◌, ◌∙◌, ◌∷◌, ◌≡◌}
use Rattle.std.proofs.lemmas.List.Elements.{filter-append}
use Rattle.std.proofs.lemmas.List.{append-nil, reverse-append, reverse-reverse}

-- one more event
pub history_of-one : (events : List Event) (e : Event) → history_of (events ++ e ∷ []) ≡ history_of events ▸ e
history_of-one events e = reverse-append events (e ∷ [])

-- more events
pub history_of-more : (events more : List Event) → history_of (events ++ more) ≡ history_of more ++ history_of events
history_of-more events more = reverse-append events more

-- and back
pub history_of-twice : (H : History) → history_of (history_of H) ≡ H
history_of-twice H = reverse-reverse H

-- the first events are the front of the history
pub first_in_front : (events more all : List Event) → events ++ more ≡ all → IsFrontOf (history_of events) (history_of all)
first_in_front events more all is = record { later = history_of more; is = ap history_of (sym is) ∙ history_of-more events more }

-- the front of a history has its first events
pub front_is_first : (P H : History) (front : IsFrontOf P H) → history_of P ++ history_of front.later ≡ history_of H
front_is_first P H front = sym (ap history_of front.is ∙ history_of-more front.later P)

-- the front of a front
pub front-trans : {P Q H : History} → IsFrontOf P Q → IsFrontOf Q H → IsFrontOf P H
front-trans {P = P} first second = record {
  later = second.later ++ first.later;
  is = second.is ∙ ap (λ (Q : History). second.later ++ Q) first.is ∙ sym (append_assoc second.later first.later P);
}

pub front-refl : (P : History) → IsFrontOf P P
front-refl P = record { later = []; is = refl }

-- one event more
pub front-more : {P Q : History} (e : Event) → IsFrontOf P Q → IsFrontOf P (Q ▸ e)
front-more e front = record { later = e ∷ front.later; is = ap (λ (Q : History). e ∷ Q) front.is }

-- an actor's own events
pub mine-history_of : (a : ℕ) (events : List Event) → mine a (history_of events) ≡ history_of (mine a events)
mine-history_of a [] = refl
mine-history_of a (e ∷ events) =
    ap (mine a) (reverse-append (e ∷ []) events)
    ∙ filter-append (λ e. nat_eq (actor_of e) a) (history_of events) (e ∷ [])
    ∙ ap (λ (own : List Event). own ++ mine a (e ∷ [])) (mine-history_of a events)
    ∙ by (nat_eq (actor_of e) a) refl
  where
    by : (t : Bool) → nat_eq (actor_of e) a ≡ t → history_of (mine a events) ++ mine a (e ∷ []) ≡ history_of (mine a (e ∷ events))
    by true is = rw is (sym (reverse-append (e ∷ []) (mine a events)))
    by false is = rw is (append-nil _)

pub mine-more : (a : ℕ) (H P : History) → mine a (H ++ P) ≡ mine a H ++ mine a P
mine-more a H P = filter-append (λ e. nat_eq (actor_of e) a) H P
