-- The parts that were read, as the loop that decodes a packet keeps them.
use Rattle.cd_net.proofs.Cutting.{cut_in_one_way, parts_once}
use Rattle.cd_net.proofs.Fields.{in_force-push}
use Rattle.cd_net.specs.Carried.{with_field}
use Rattle.cd_net.specs.InForce.{InForce, in_force}
use Rattle.cd_net.specs.Items.{IsDecoded, SaysOneThing, each_behind, item_in, items_of, outcome, outcome_behind, refusal_in, refused_of}
use Rattle.cd_net.specs.Packet.{AreParts, end_at, part_at, payload}
use Rattle.cd_net.specs.Refusals.{set_in_force}
use Rattle.cd_net.specs.declared.item.Decoded.{Decoded}
use Rattle.cd_net.specs.declared.item.Item.{Item}
use Rattle.cd_net.specs.declared.item.ItemRefusal.{ItemRefusal}
use Rattle.cd_net.specs.declared.packet.PacketEnd.{PacketEnd}
use Rattle.cd_net.specs.declared.packet.Part.{Part}
use Rattle.cd_value.specs.declared.data.DataSet.{DataSet}
use Rattle.std.proofs.Common.{List, None, Option, Result, Some, [], ap, append_assoc, refl, subst, sym, ℕ, ◌++◌, ◌+◌, ◌∙◌, ◌∷◌, ◌≡◌}
use Rattle.std.proofs.lemmas.List.{append-nil}
use Rattle.std.specs.List.{cons_option}
use Rattle.std.specs.Option.{option_to_list}

cons-append : {A : Type 0} (o : Option A) (xs ys : List A) → cons_option o xs ++ ys ≡ cons_option o (xs ++ ys)
cons-append None xs ys = refl
cons-append (Some x) xs ys = refl

single : {A : Type 0} (o : Option A) → cons_option o [] ≡ option_to_list o
single None = refl
single (Some x) = refl

-- what f gives of one more part comes last
pub each_behind-push : {A : Type 0} (f : List Part → Part → Option A) (front parts : List Part) (part : Part)
    → each_behind f front (parts ++ part ∷ []) ≡ each_behind f front parts ++ option_to_list (f (front ++ parts) part)
unfolding each_behind
each_behind-push {A} f front [] part =
    single (f front part) ∙ ap (λ (before : List Part). option_to_list (f before part)) (sym (append-nil front))
each_behind-push {A} f front (p ∷ parts) part =
    ap (cons_option (f front p)) (each_behind-push f (front ++ p ∷ []) parts part
    ∙ ap (λ (before : List Part). each_behind f (front ++ p ∷ []) parts ++ option_to_list (f before part)) (append_assoc front (p ∷ []) parts))
    ∙ sym (cons-append (f front p) (each_behind f (front ++ p ∷ []) parts) (option_to_list (f (front ++ p ∷ parts) part)))

-- some parts lead to a place, and this is what they gave
pub record Reads (types : List DataSet) (global : ℕ) (bytes : List ℕ) (place : ℕ) (fields : InForce) (items : List Item) (refused : List (ℕ × ItemRefusal)) : Type 0 where
  pub before : List Part
  pub goes_on : (parts : List Part) (end : PacketEnd) → AreParts bytes place parts end → AreParts bytes 0 (before ++ parts) end
  pub fields_are : fields ≡ in_force bytes before
  pub items_are : items ≡ items_of types global bytes before
  pub refused_are : refused ≡ refused_of types global bytes before

-- none lead to the first place
pub reads_none : (types : List DataSet) (global : ℕ) (bytes : List ℕ) (fields : InForce) (items : List Item) (refused : List (ℕ × ItemRefusal))
    → fields ≡ in_force bytes [] → items ≡ [] → refused ≡ [] → Reads types global bytes 0 fields items refused
unfolding each_behind
reads_none types global bytes fields items refused f i r =
    record { before = []; goes_on = λ parts end cut. cut; fields_are = f; items_are = i; refused_are = r }

-- one more leads to the next place
pub reads_more : (types : List DataSet) (global : ℕ) (bytes : List ℕ) (place : ℕ) (fields next : InForce) (items more : List Item) (refused again : List (ℕ × ItemRefusal)) (part : Part)
    (gave : Option (Result Item ItemRefusal))
    → Reads types global bytes place fields items refused → end_at bytes place ≡ None → part ≡ part_at bytes place
    → gave ≡ outcome (set_in_force types fields) global fields part.kind (payload bytes part)
    → next ≡ with_field part.kind (payload bytes part) fields
    → more ≡ items ++ option_to_list (item_in gave)
    → again ≡ refused ++ option_to_list (refusal_in part.place gave)
    → Reads types global bytes (place + part.length) next more again
reads_more types global bytes place fields next items more refused again part gave reads going part_is gave_is next_is more_is again_is =
    let before = reads.before in
    let here : gave ≡ outcome_behind types global bytes before part
    = gave_is ∙ ap (λ (f : InForce). outcome (set_in_force types f) global f part.kind (payload bytes part)) reads.fields_are in
    record {
      before = before ++ part ∷ [];
      goes_on = λ parts end cut. subst (λ (ps : List Part). AreParts bytes 0 ps end) (sym (append_assoc before (part ∷ []) parts)) (reads.goes_on (part ∷ parts) end (going, part_is, cut));
      fields_are = next_is ∙ ap (with_field part.kind (payload bytes part)) reads.fields_are ∙ sym (in_force-push bytes before part);
      items_are =
          more_is ∙ ap (λ (xs : List Item). xs ++ option_to_list (item_in gave)) reads.items_are
          ∙ ap (λ (g : Option (Result Item ItemRefusal)). items_of types global bytes before ++ option_to_list (item_in g)) here
          ∙ sym (each_behind-push (λ b p. item_in (outcome_behind types global bytes b p)) [] before part);
      refused_are =
          again_is ∙ ap (λ (xs : List (ℕ × ItemRefusal)). xs ++ option_to_list (refusal_in part.place gave)) reads.refused_are
          ∙ ap (λ (g : Option (Result Item ItemRefusal)). refused_of types global bytes before ++ option_to_list (refusal_in part.place g)) here
          ∙ sym (each_behind-push (λ b p. refusal_in p.place (outcome_behind types global bytes b p)) [] before part);
    }

-- where the packet ends, all is read
pub reads_all : (types : List DataSet) (global : ℕ) (bytes : List ℕ) (place : ℕ) (fields : InForce) (items : List Item) (refused : List (ℕ × ItemRefusal)) (end : PacketEnd)
    → Reads types global bytes place fields items refused → end_at bytes place ≡ Some end
    → IsDecoded types global bytes (record { items = items; refused = refused; end = end })
reads_all types global bytes place fields items refused end reads at_end =
    record {
      parts = reads.before;
      cut = subst (λ (ps : List Part). AreParts bytes 0 ps end) (append-nil reads.before) (reads.goes_on [] end at_end);
      items = reads.items_are;
      refused = reads.refused_are;
    }

-- ---- a packet says one thing

pub decoded_once : (types : List DataSet) (global : ℕ) (bytes : List ℕ) (other decoded : Decoded)
    → IsDecoded types global bytes other → IsDecoded types global bytes decoded → other ≡ decoded
decoded_once types global bytes other decoded a b =
    let both = parts_once bytes 0 b.parts a.parts decoded.end other.end b.cut a.cut in
    let items : other.items ≡ decoded.items = a.items ∙ ap (items_of types global bytes) both.0 ∙ sym b.items in
    let refused : other.refused ≡ decoded.refused = a.refused ∙ ap (refused_of types global bytes) both.0 ∙ sym b.refused in
    ap (λ (xs : List Item). record { items = xs; refused = other.refused; end = other.end }) items
    ∙ ap (λ (xs : List (ℕ × ItemRefusal)). record { items = decoded.items; refused = xs; end = other.end }) refused
    ∙ ap (λ (e : PacketEnd). record { items = decoded.items; refused = decoded.refused; end = e }) both.1

pub says_one_thing : (types : List DataSet) (global : ℕ) (bytes : List ℕ) → SaysOneThing types global bytes
says_one_thing types global bytes =
    let cut = cut_in_one_way bytes in
    let says : Decoded = record { items = items_of types global bytes cut.parts; refused = refused_of types global bytes cut.parts; end = cut.end } in
    let decoded : IsDecoded types global bytes says = record { parts = cut.parts; cut = cut.cut; items = refl; refused = refl } in
    record {
      says = says;
      decoded = decoded;
      only = λ other is. decoded_once types global bytes other says is decoded;
    }
