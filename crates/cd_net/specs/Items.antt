-- What a packet says: for each values part and each message part an item, or why it gives none.
use Rattle.cd_net.specs.Clean.{cleaned}
use Rattle.cd_net.specs.InForce.{InForce, in_force}
use Rattle.cd_net.specs.Packet.{AreParts, payload}
use Rattle.cd_net.specs.Payload.{payload_text, payload_values}
use Rattle.cd_net.specs.Refusals.{first_refusal, list_tests, note_tests, set_in_force, texts_of}
use Rattle.cd_net.specs.declared.item.Decoded.{Decoded}
use Rattle.cd_net.specs.declared.item.Item.TheVariants as items
use Rattle.cd_net.specs.declared.item.Item.{Item}
use Rattle.cd_net.specs.declared.item.ItemRefusal.{ItemRefusal}
use Rattle.cd_net.specs.declared.numbers.TheConstants.{FAILURE_CODE, MESSAGE, VALUES, WARNING_CODE}
use Rattle.cd_net.specs.declared.packet.Part.{Part}
use Rattle.cd_types.specs.Types.{fits}
use Rattle.cd_value.specs.Clean.{longest_front}
use Rattle.cd_value.specs.Identifier.{Fields, has_control, is_field}
use Rattle.cd_value.specs.declared.data.DataSet.{DataSet}
use Rattle.cd_value.specs.declared.data.Notification.{Notification}
use Rattle.cd_value.specs.declared.data.Severity.TheVariants.{Failure, Okay, Warning}
use Rattle.cd_value.specs.declared.data.Severity.{Severity}
use Rattle.cd_value.specs.declared.data.ValueList.{ValueList}
use Rattle.cd_value.specs.declared.numbers.TheConstants.{MESSAGE_LIMIT}
use Rattle.std.specs.List.{cons_option}
use Rattle.std.specs.Prelude.{Bool, Err, List, None, Ok, Option, Result, Some, [], false, if◌then◌else◌, length, nat_le, not, true, unwrap_or, ℕ, ◌&&◌, ◌++◌, ◌==◌, ◌∷◌, ◌≡◌}

-- ---- an item

-- no control character, and no slash in the host, the plugin and the plugin instance
abbrev pub clean_texts : Fields → Fields
clean_texts texts = record {
  host = cleaned true texts.host;
  plugin = cleaned true texts.plugin;
  plugin_instance = cleaned true texts.plugin_instance;
  type_name = cleaned false texts.type_name;
  type_instance = cleaned false texts.type_instance;
}

-- the global interval stands for one of 0
abbrev pub interval_or : ℕ → ℕ → ℕ
interval_or global interval = if interval == 0 then global else interval

abbrev pub list_of : ℕ → InForce → List ℕ → ValueList
list_of global fields payload = record {
  id = clean_texts (texts_of fields);
  time = unwrap_or fields.time 0;
  interval = interval_or global (unwrap_or fields.interval 0);
  values = payload_values payload;
}

abbrev pub severity_of : ℕ → Severity
severity_of code =
    if code == FAILURE_CODE then Failure else (if code == WARNING_CODE then Warning else Okay)

-- a message is cut where a character ends
abbrev pub message_of : List ℕ → List ℕ
message_of text = cleaned false (longest_front MESSAGE_LIMIT text)

abbrev pub note_of : InForce → List ℕ → Notification
note_of fields message =
    let texts = clean_texts (texts_of fields) in record {
      severity = severity_of fields.severity;
      time = unwrap_or fields.time 0;
      host = texts.host;
      plugin = texts.plugin;
      plugin_instance = texts.plugin_instance;
      type_name = texts.type_name;
      type_instance = texts.type_instance;
      message = message_of message;
    }

-- ---- an item, or its first refusal

abbrev pub or_refusal : Item → Option ItemRefusal → Result Item ItemRefusal
or_refusal item None = Ok item
or_refusal item (Some refusal) = Err refusal

unfoldable pub list_outcome : Option DataSet → ℕ → InForce → List ℕ → Result Item ItemRefusal
list_outcome set global fields payload =
    let list = list_of global fields payload in
    or_refusal (items.List list) (first_refusal (list_tests set fields payload))

unfoldable pub note_outcome : InForce → List ℕ → Result Item ItemRefusal
note_outcome fields payload =
    let message = payload_text payload in
    let note = note_of fields (unwrap_or message []) in
    or_refusal (items.Note note) (first_refusal (note_tests fields message))

-- what a part gives under the fields in force and their data set, if it gives anything
abbrev pub outcome : Option DataSet → ℕ → InForce → ℕ → List ℕ → Option (Result Item ItemRefusal)
outcome set global fields kind payload =
    if kind == VALUES then Some (list_outcome set global fields payload)
    else (if kind == MESSAGE then Some (note_outcome fields payload) else None)

-- what a part gives behind some others
abbrev pub outcome_behind : List DataSet → ℕ → List ℕ → List Part → Part → Option (Result Item ItemRefusal)
outcome_behind types global bytes before part =
    let fields = in_force bytes before in
    outcome (set_in_force types fields) global fields part.kind (payload bytes part)

abbrev pub item_in : Option (Result Item ItemRefusal) → Option Item
item_in (Some (Ok item)) = Some item
item_in _ = None

abbrev pub refusal_in : ℕ → Option (Result Item ItemRefusal) → Option (ℕ × ItemRefusal)
refusal_in place (Some (Err refusal)) = Some (place, refusal)
refusal_in place _ = None

-- ---- a packet

-- what f gives of some parts, each behind all those before it
unfoldable pub each_behind : {A : Type 0} → (List Part → Part → Option A) → List Part → List Part → List A
each_behind f before [] = []
each_behind f before (part ∷ parts) =
    cons_option (f before part) (each_behind f (before ++ part ∷ []) parts)

abbrev pub items_of : List DataSet → ℕ → List ℕ → List Part → List Item
items_of types global bytes parts =
    each_behind (λ before part. item_in (outcome_behind types global bytes before part)) [] parts

-- the place of each part that is refused, and why it is
abbrev pub refused_of : List DataSet → ℕ → List ℕ → List Part → List (ℕ × ItemRefusal)
refused_of types global bytes parts =
    each_behind (λ before part. refusal_in part.place (outcome_behind types global bytes before part)) [] parts

-- the packet is cut into parts, and these are the parts' items, their refusals and the packet's end
pub record IsDecoded (types : List DataSet) (global : ℕ) (bytes : List ℕ) (decoded : Decoded) : Type 0 where
  pub parts : List Part
  pub cut : AreParts bytes 0 parts decoded.end
  pub items : decoded.items ≡ items_of types global bytes parts
  pub refused : decoded.refused ≡ refused_of types global bytes parts

-- a message has no control character, and isn't too long
abbrev pub is_message : List ℕ → Bool
is_message text = not (has_control text) && nat_le (length text) MESSAGE_LIMIT

-- an item has a time, and a notification's texts may be its fields and its message
abbrev pub is_sound : Item → Bool
is_sound (items.List list) = not (list.time == 0)
is_sound (items.Note note) =
    not (note.time == 0) && is_field note.host && is_field note.plugin
    && is_field note.plugin_instance && is_field note.type_name && is_field note.type_instance
    && is_message note.message

-- there is something that the packet says, and nothing else is what it says
pub record SaysOneThing (types : List DataSet) (global : ℕ) (bytes : List ℕ) : Type 0 where
  pub says : Decoded
  pub decoded : IsDecoded types global bytes says
  pub only : (other : Decoded) → IsDecoded types global bytes other → other ≡ says

-- an item that is a list fits the types
abbrev pub item_fits : List DataSet → Item → Bool
item_fits types (items.List list) = fits types list
item_fits types (items.Note note) = true
