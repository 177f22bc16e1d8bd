-- A packet is cut in one way.
use Rattle.cd_net.specs.Packet.{AreParts, IsCutInOneWay, end_at, has_bad_length, has_length_of_kind, part_at, u16_at}
use Rattle.cd_net.specs.declared.numbers.TheConstants.{ENCRYPTION}
use Rattle.cd_net.specs.declared.packet.PacketEnd.TheVariants.{BadLength, Encrypted, Whole}
use Rattle.cd_net.specs.declared.packet.PacketEnd.{PacketEnd}
use Rattle.cd_net.specs.declared.packet.Part.{Part}
use Rattle.std.proofs.Common.{Bool, List, None, Option, Some, [], ap, arith, cond, false, length, not, refl, subst, suc, sym, true, zero, ℕ, ◌+◌, ◌<◌, ◌==◌, ◌||◌, ◌∙◌, ◌∷◌, ◌≡◌, ◌≤◌}
use Rattle.std.proofs.lemmas.Bool.{ltb-false, or_parts}
use Rattle.std.specs.Prelude.{nat_lt}

pub parts_once : (bytes : List ℕ) (place : ℕ) (parts others : List Part) (end last : PacketEnd)
    → AreParts bytes place parts end → AreParts bytes place others last → (others ≡ parts) × (last ≡ end)
parts_once bytes place [] [] end last a b = (refl, cc)
parts_once bytes place [] (q ∷ qs) end last a b = let none = b.0 in cc
parts_once bytes place (p ∷ ps) [] end last a b = let none = a.0 in cc
parts_once bytes place (p ∷ ps) (q ∷ qs) end last a b =
    let same : q ≡ p = b.1 ∙ sym a.1 in
    let rest : AreParts bytes (place + p.length) qs last = subst (λ (r : Part). AreParts bytes (place + r.length) qs last) same b.2 in
    let both = parts_once bytes (place + p.length) ps qs end last a.2 rest in
    (ap (λ (r : Part). r ∷ qs) same ∙ ap (λ (rs : List Part). p ∷ rs) both.0, both.1)

-- ---- there is a way

-- where the packet goes on, a part with its head stands within the bytes
record GoesOn (bytes : List ℕ) (place : ℕ) : Type 0 where
  head : 4 ≤ (part_at bytes place).length
  within : place + (part_at bytes place).length ≤ length bytes

goes_on : (bytes : List ℕ) (place : ℕ) → end_at bytes place ≡ None → GoesOn bytes place
unfolding end_at
goes_on bytes place e =
    let part = part_at bytes place in
    let no_head = nat_lt (length bytes) (place + 4) in
    let rest = cond (u16_at bytes place == ENCRYPTION) (Some (Encrypted place)) None in
    let good = second (place == length bytes) (no_head || has_bad_length bytes part) rest e in
    let bad = or_parts no_head (has_bad_length bytes part) good in
    let outside = nat_lt (length bytes) (place + part.length) in
    let lengths = or_parts (nat_lt part.length 4 || outside) (not (has_length_of_kind bytes part)) bad.1 in
    let both = or_parts (nat_lt part.length 4) outside lengths.0 in
    record { head = ltb-false part.length 4 both.0; within = ltb-false (length bytes) (place + part.length) both.1 }
  where
    second : (first t : Bool) (rest : Option PacketEnd) → cond first (Some Whole) (cond t (Some (BadLength place)) rest) ≡ None → t ≡ false
    second true t rest h = cc
    second false true rest h = cc
    second false false rest h = refl

-- some parts from a place on, and an end
record Cut (bytes : List ℕ) (place : ℕ) : Type 0 where
  parts : List Part
  end : PacketEnd
  cut : AreParts bytes place parts end

cut_from : (more : ℕ) (bytes : List ℕ) (place : ℕ) → place ≤ length bytes → length bytes < place + more → Cut bytes place
cut_from zero bytes place inside near = absurd (omega (arith, inside, near))
cut_from (suc more) bytes place inside near = by (end_at bytes place) refl (cut_from more bytes (place + (part_at bytes place).length))
  where
    by : (o : Option PacketEnd) → end_at bytes place ≡ o
        → (place + (part_at bytes place).length ≤ length bytes → length bytes < place + (part_at bytes place).length + more → Cut bytes (place + (part_at bytes place).length))
        → Cut bytes place
    by (Some end) e next = record { parts = []; end = end; cut = e }
    by None e next =
        let going = goes_on bytes place e in
        let head = going.head in
        let rest = next going.within (omega (arith, near, head)) in
        record { parts = part_at bytes place ∷ rest.parts; end = rest.end; cut = (e, refl, rest.cut) }

pub cut_in_one_way : (bytes : List ℕ) → IsCutInOneWay bytes
cut_in_one_way bytes =
    let all = cut_from (suc (length bytes)) bytes 0 (omega arith) (omega arith) in
    record {
      parts = all.parts;
      end = all.end;
      cut = all.cut;
      only = λ others last cut. parts_once bytes 0 all.parts others all.end last all.cut cut;
    }
