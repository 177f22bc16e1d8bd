-- What came over calls on a source of datagrams, one after another.
use Rattle.cd_io.proofs.Moves.{adds_more, adds_none, loses_more, loses_none}
use Rattle.cd_io.specs.Datagrams.{as_datagram}
use Rattle.cd_io.specs.Packets.{Came, PacketsTell}
use Rattle.std.proofs.Common.{List, [], ap, arith, drop, get_or, length, map, refl, sym, take, ℕ, ◌++◌, ◌+◌, ◌<◌, ◌∙◌, ◌∷◌, ◌≡◌}
use Rattle.std.proofs.lemmas.List.{drop_more, map_more}

-- no call
pub came_nothing : (source : PacketsTell) → Came [] source source
came_nothing source = record {
  given = adds_none source.given;
  left = loses_none source.left;
  faults = search arith;
  quiets = search arith;
}

-- some calls, and others after them
pub came_then : (datagrams more : List (List ℕ)) (first mid last : PacketsTell)
    → Came datagrams first mid → Came more mid last → Came (datagrams ++ more) first last
came_then datagrams more first mid last s t = record {
  given = adds_more datagrams more first.given mid.given last.given s.given t.given;
  left = loses_more datagrams more first.left mid.left last.left s.left t.left;
  faults = let a = s.faults in let b = t.faults in omega arith;
  quiets = let a = s.quiets in let b = t.quiets in omega arith;
}

-- ---- in memory

map-map : {X Y Z : Type 0} (f : X → Y) (g : Y → Z) (xs : List X) → map g (map f xs) ≡ map (λ x. g (f x)) xs
map-map f g [] = refl
map-map f g (x ∷ xs) = rw (map-map f g xs) refl

pub told_of : {X : Type 0} (f : X → List ℕ) (xs : List X) → map (λ x. as_datagram (f x)) xs ≡ map as_datagram (map f xs)
told_of f xs = sym (map-map f as_datagram xs)

-- one more is given, and is taken from those that are left
pub one_came : {X : Type 0} (f : X → List ℕ) (xs : List X) (t : ℕ) (x : X) (got : List ℕ)
    → t < length xs → x ≡ get_or xs t x → got ≡ f x
    → (map f (take (t + 1) xs) ≡ map f (take t xs) ++ got ∷ []) × (map f (drop t xs) ≡ got ∷ map f (drop (t + 1) xs))
one_came f xs t x got lt is same =
    let here : f (get_or xs t x) ≡ got = ap f (sym is) ∙ sym same in (
      map_more f xs t x lt ∙ ap (λ (d : List ℕ). map f (take t xs) ++ d ∷ []) here,
      ap (map f) (drop_more xs t x lt) ∙ ap (λ (d : List ℕ). d ∷ map f (drop (t + 1) xs)) here,
    )
