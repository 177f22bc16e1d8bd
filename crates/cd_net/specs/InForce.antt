-- The fields of a value list or a notification: of each kind of field, what the last part of that
-- kind before it in the packet says.
use Rattle.cd_net.specs.Packet.{payload}
use Rattle.cd_net.specs.Payload.{payload_number, payload_text, units_of_seconds}
use Rattle.cd_net.specs.declared.numbers.TheConstants.{HOST, INTERVAL, INTERVAL_HIGH_RESOLUTION, PLUGIN, PLUGIN_INSTANCE, SEVERITY, TIME, TIME_HIGH_RESOLUTION, TYPE, TYPE_INSTANCE}
use Rattle.cd_net.specs.declared.packet.Part.{Part}
use Rattle.std.specs.List.{find}
use Rattle.std.specs.Option.{option_map_or}
use Rattle.std.specs.Prelude.{Bool, List, Option, Some, [], if◌then◌else◌, reverse, ℕ, ◌==◌, ◌||◌}

-- The fields in force behind some parts. A text whose payload isn't one is none, and so is a time
-- of too many seconds.
pub record InForce : Type 0 where
  pub host : Option (List ℕ)
  pub plugin : Option (List ℕ)
  pub plugin_instance : Option (List ℕ)
  pub type_name : Option (List ℕ)
  pub type_instance : Option (List ℕ)
  pub time : Option ℕ
  pub interval : Option ℕ
  pub severity : ℕ

-- what is read of the last of some parts that is of a kind, and the default where none is
unfoldable pub last_of : {A : Type 0} → (ℕ → Bool) → (Part → A) → A → List Part → A
last_of is_kind read default before =
    option_map_or read (find (λ part. is_kind part.kind) (reverse before)) default

-- an empty text where no part of the kind came
abbrev pub text_in_force : List ℕ → ℕ → List Part → Option (List ℕ)
text_in_force bytes kind before =
    last_of (λ k. k == kind) (λ part. payload_text (payload bytes part)) (Some []) before

-- a time in seconds and one in 2^-30 s are one field, and so are the intervals
abbrev pub is_time : ℕ → Bool
is_time kind = kind == TIME || kind == TIME_HIGH_RESOLUTION

abbrev pub is_interval : ℕ → Bool
is_interval kind = kind == INTERVAL || kind == INTERVAL_HIGH_RESOLUTION

-- the number of a payload in 2^-30 s, where the first kind gives it in seconds
abbrev pub units_of : ℕ → ℕ → List ℕ → Option ℕ
units_of in_seconds kind payload =
    if kind == in_seconds then units_of_seconds (payload_number payload) else Some (payload_number payload)

abbrev pub in_force : List ℕ → List Part → InForce
in_force bytes before = record {
  host = text_in_force bytes HOST before;
  plugin = text_in_force bytes PLUGIN before;
  plugin_instance = text_in_force bytes PLUGIN_INSTANCE before;
  type_name = text_in_force bytes TYPE before;
  type_instance = text_in_force bytes TYPE_INSTANCE before;
  time = last_of is_time (λ part. units_of TIME part.kind (payload bytes part)) (Some 0) before;
  interval =
      last_of is_interval (λ part. units_of INTERVAL part.kind (payload bytes part)) (Some 0) before;
  severity =
      last_of (λ kind. kind == SEVERITY) (λ part. payload_number (payload bytes part)) 0 before;
}
