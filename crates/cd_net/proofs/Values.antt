-- The values of some codes, one behind the other.
use Rattle.cd_net.specs.Payload.{coded_value, codes_of, numbers_of, payload_values}
use Rattle.cd_value.specs.declared.data.Value.{Value}
use Rattle.std.proofs.Common.{List, [], ap, arith, drop, refl, ℕ, ◌*◌, ◌+◌, ◌∙◌, ◌∷◌, ◌≡◌}
use Rattle.std.proofs.lemmas.List.{drop-drop}
use Rattle.std.specs.List.{cons_option, enumerate_from, filter_map}

-- the values of some codes, each of the next eight bytes
abbrev pub coded_values : List ℕ → List ℕ → List Value
coded_values [] bytes = []
coded_values (code ∷ codes) bytes = cons_option (coded_value code bytes) (coded_values codes (drop 8 bytes))

from_place : (n : ℕ) (codes bytes : List ℕ)
    → coded_values codes (drop (8 * n) bytes) ≡ filter_map (λ coded. coded_value coded.1 (drop (8 * coded.0) bytes)) (enumerate_from n codes)
from_place n [] bytes = refl
from_place n (code ∷ codes) bytes =
    let place : 8 * n + 8 ≡ 8 * (n + 1) = omega arith in
    let next : drop 8 (drop (8 * n) bytes) ≡ drop (8 * (n + 1)) bytes = drop-drop 8 (8 * n) bytes ∙ ap (λ (m : ℕ). drop m bytes) place in
    ap (λ (values : List Value). cons_option (coded_value code (drop (8 * n) bytes)) values)
    (ap (coded_values codes) next ∙ from_place (n + 1) codes bytes)

-- they are those of a payload
pub payload_values_are : (payload : List ℕ) → coded_values (codes_of payload) (numbers_of payload) ≡ payload_values payload
payload_values_are payload = from_place 0 (codes_of payload) (numbers_of payload)
