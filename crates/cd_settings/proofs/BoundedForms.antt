-- What the forms of values give is within their bounds.
use Rattle.cd_conf.specs.declared.item.Arg.TheVariants.{Flag, Number, Words}
use Rattle.cd_conf.specs.declared.item.Arg.{Arg}
use Rattle.cd_settings.specs.Bounds.{IsInterval, IsWithin}
use Rattle.cd_settings.specs.Forms.{Form, address, between, host, interval, is_host, is_plain, is_port, number, only, port, text, whole}
use Rattle.cd_settings.specs.declared.plugins.Listen.{Listen}
use Rattle.cd_text.specs.Time.{units_of_millionths}
use Rattle.cd_text.specs.declared.numbers.TheConstants.{DURATION_LIMIT}
use Rattle.cd_value.specs.declared.numbers.TheConstants.{MILLIONTHS}
use Rattle.std.proofs.Common.{Bool, IfSome, IsTrue, List, None, Option, Some, [], arith, false, int_le, nat_abs, negsuc, option_map, pos, refl, true, ℕ, ℤ, ◌%◌, ◌&&◌, ◌*◌, ◌/◌, ◌==◌, ◌∷◌, ◌≡◌}
use Rattle.std.proofs.lemmas.Grind.{common_steps}
use Rattle.std.specs.Prelude.{if◌then◌else◌}
use Rattle.std.specs.Str.Parse.{digits_value}

-- a form gives values of a kind alone
abbrev pub Within : {A : Type 0} → (A → Type 0) → Form A → Type 0
Within B form = (args : List Arg) → IfSome (form args) B

pub some_if : {A : Type 0} (b : Bool) (x : A) (B : A → Type 0) → (b ≡ true → B x) → IfSome (if b then Some x else None) B
some_if true x B h = h refl
some_if false x B h = tt

pub mapped : {A C : Type 0} (f : A → C) (v : Option A) (P : A → Type 0) (B : C → Type 0) → IfSome v P → ((x : A) → P x → B (f x)) → IfSome (option_map f v) B
mapped f None P B h k = tt
mapped f (Some x) P B h k = k x h

pub passed : {A : Type 0} (test : A → Bool) (v : Option A) (P B : A → Type 0) → IfSome v P → ((x : A) → P x → test x ≡ true → B x) → IfSome (only test v) B
passed test None P B h k = tt
passed test (Some x) P B h k = some_if (test x) x B (k x h)

pub anything : {A : Type 0} (v : Option A) → IfSome v (λ x. Unit {0})
anything None = tt
anything (Some x) = tt

pub host_within : Within (λ h. IsTrue (is_host h)) host
host_within args = passed is_host (text args) (λ x. Unit {0}) (λ h. IsTrue (is_host h)) (anything (text args)) (λ x h e. e)

between_within : (least most : ℕ) → Within (IsWithin least most) (between least most)
between_within least most args =
    mapped nat_abs (only (λ n. int_le (pos least) n && int_le n (pos most)) (number args)) (λ n. int_le (pos least) n && int_le n (pos most) ≡ true) (IsWithin least most)
    (passed (λ n. int_le (pos least) n && int_le n (pos most)) (number args) (λ x. Unit {0}) (λ n. int_le (pos least) n && int_le n (pos most) ≡ true) (anything (number args)) (λ x h e. e))
    (λ n e. sized n e)
  where
    sized : (n : ℤ) → int_le (pos least) n && int_le n (pos most) ≡ true → IsWithin least most (nat_abs n)
    sized (pos n) e = (grind (arith, common_steps), grind (arith, common_steps))
    sized (negsuc n) e = absurd (grind (arith, common_steps))

pub whole_within : (least most : ℕ) → Within (IsWithin least most) (whole least most)
whole_within least most args =
    mapped (λ n. n / MILLIONTHS) (only (λ n. n % MILLIONTHS == 0) (between (least * MILLIONTHS) (most * MILLIONTHS) args)) (IsWithin (least * MILLIONTHS) (most * MILLIONTHS)) (IsWithin least most)
    (passed (λ n. n % MILLIONTHS == 0) (between (least * MILLIONTHS) (most * MILLIONTHS) args) (IsWithin (least * MILLIONTHS) (most * MILLIONTHS)) (IsWithin (least * MILLIONTHS) (most * MILLIONTHS))
    (between_within (least * MILLIONTHS) (most * MILLIONTHS) args) (λ n h e. h))
    (λ n h. (omega (arith, h.0), omega (arith, h.1)))

pub interval_within : Within IsInterval interval
interval_within args =
    mapped units_of_millionths (only (λ n. int_le (pos 1) n && int_le n DURATION_LIMIT) (number args)) (λ n. int_le (pos 1) n && int_le n DURATION_LIMIT ≡ true) IsInterval
    (passed (λ n. int_le (pos 1) n && int_le n DURATION_LIMIT) (number args) (λ x. Unit {0}) (λ n. int_le (pos 1) n && int_le n DURATION_LIMIT ≡ true) (anything (number args)) (λ x h e. e))
    (λ n e. timed n e)
  where
    timed : (n : ℤ) → int_le (pos 1) n && int_le n DURATION_LIMIT ≡ true → IsInterval (units_of_millionths n)
    timed (pos n) e = (grind (arith, common_steps), grind (arith, common_steps))
    timed (negsuc n) e = absurd (grind (arith, common_steps))

port_within : Within (IsWithin 1 65535) port
port_within [] = tt
port_within (Words t ∷ []) = by (is_plain t)
  where
    by : (b : Bool) → IfSome (if b then only is_port (Some (digits_value 10 t)) else None) (IsWithin 1 65535)
    by true = passed is_port (Some (digits_value 10 t)) (λ x. Unit {0}) (IsWithin 1 65535) tt (λ n h e. (grind (arith, common_steps), grind (arith, common_steps)))
    by false = tt
port_within (Words t ∷ arg ∷ args) = tt
port_within (Number n ∷ args) = whole_within 1 65535 (Number n ∷ args)
port_within (Flag b ∷ args) = tt

pub address_within : Within (λ listen. IsWithin 1 65535 listen.port) address
address_within [] = tt
address_within (Words h ∷ []) = (omega arith, omega arith)
address_within (Words h ∷ arg ∷ []) =
    mapped (λ n. record { host = h; port = n }) (port (arg ∷ [])) (IsWithin 1 65535) (λ (listen : Listen). IsWithin 1 65535 listen.port) (port_within (arg ∷ [])) (λ n b. b)
address_within (Words h ∷ arg ∷ other ∷ args) = tt
address_within (Number n ∷ args) = tt
address_within (Flag b ∷ args) = tt
