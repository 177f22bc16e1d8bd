-- What the targets leave is an identifier.
use Rattle.cd_pattern.specs.Fields.{field_of}
use Rattle.cd_pattern.specs.declared.field.Field.TheVariants.{Host, Plugin, PluginInstance, TypeInstance}
use Rattle.cd_target.specs.Targets.{Keeps, rewritten, rewritten_field, rewritten_fields, text_of}
use Rattle.cd_target.specs.declared.target.Target.{Target}
use Rattle.cd_value.proofs.Cleaned.{is_field-clean_field, slash-clean_field}
use Rattle.cd_value.specs.Clean.{clean_field, field_or_old}
use Rattle.cd_value.specs.Identifier.{Fields, has_slash, is_empty, is_field, is_identifier, is_type_byte}
use Rattle.cd_value.specs.declared.data.ValueList.{ValueList}
use Rattle.std.proofs.Common.{Bool, List, ap, cond, false, not, refl, sym, true, ℕ, ◌&&◌, ◌∙◌, ◌≡◌}
use Rattle.std.proofs.lemmas.Bool.{and_parts, not-true}
use Rattle.std.specs.List.{list_all}
use Rattle.std.specs.Option.{option_map_or}
use Rattle.std.specs.Prelude.{None, Option, Some, unwrap_or}

-- ---- the facts that make an identifier

all_hold : (a b c d e f g h i j k l : Bool) → a ≡ true → b ≡ true → c ≡ true → d ≡ true → e ≡ true
    → f ≡ false → g ≡ false → h ≡ false → i ≡ false → j ≡ false → k ≡ false → l ≡ true
    → (a && b && c && d && e && not f && not g && not h && not i && not j && not k && l) ≡ true
all_hold a b c d e f g h i j k l pa pb pc pd pe pf pg ph pi pj pk pl =
    rw (pa, pb, pc, pd, pe, pf, pg, ph, pi, pj, pk, pl) refl

record Holds (a b c d e f g h i j k l : Bool) : Type 0 where
  pa : a ≡ true
  pb : b ≡ true
  pc : c ≡ true
  pd : d ≡ true
  pe : e ≡ true
  pf : f ≡ false
  pg : g ≡ false
  ph : h ≡ false
  pi : i ≡ false
  pj : j ≡ false
  pk : k ≡ false
  pl : l ≡ true

each_holds : (a b c d e f g h i j k l : Bool)
    → (a && b && c && d && e && not f && not g && not h && not i && not j && not k && l) ≡ true
    → Holds a b c d e f g h i j k l
each_holds a b c d e f g h i j k l all =
    let s11 = and_parts (a && b && c && d && e && not f && not g && not h && not i && not j && not k) (l) all in
    let s10 = and_parts (a && b && c && d && e && not f && not g && not h && not i && not j) (not k) s11.0 in
    let s9 = and_parts (a && b && c && d && e && not f && not g && not h && not i) (not j) s10.0 in
    let s8 = and_parts (a && b && c && d && e && not f && not g && not h) (not i) s9.0 in
    let s7 = and_parts (a && b && c && d && e && not f && not g) (not h) s8.0 in
    let s6 = and_parts (a && b && c && d && e && not f) (not g) s7.0 in
    let s5 = and_parts (a && b && c && d && e) (not f) s6.0 in
    let s4 = and_parts (a && b && c && d) (e) s5.0 in
    let s3 = and_parts (a && b && c) (d) s4.0 in
    let s2 = and_parts (a && b) (c) s3.0 in
    let s1 = and_parts (a) (b) s2.0 in
    record {
      pa = s1.0;
      pb = s1.1;
      pc = s2.1;
      pd = s3.1;
      pe = s4.1;
      pf = not-true f s5.1;
      pg = not-true g s6.1;
      ph = not-true h s7.1;
      pi = not-true i s8.1;
      pj = not-true j s9.1;
      pk = not-true k s10.1;
      pl = s11.1;
    }

pub record IsIdentifier (id : Fields) : Type 0 where
  pub host : is_field id.host ≡ true
  pub plugin : is_field id.plugin ≡ true
  pub plugin_instance : is_field id.plugin_instance ≡ true
  pub type_name : is_field id.type_name ≡ true
  pub type_instance : is_field id.type_instance ≡ true
  pub some_host : is_empty id.host ≡ false
  pub some_plugin : is_empty id.plugin ≡ false
  pub some_type : is_empty id.type_name ≡ false
  pub bare_host : has_slash id.host ≡ false
  pub bare_plugin : has_slash id.plugin ≡ false
  pub bare_instance : has_slash id.plugin_instance ≡ false
  pub letters : list_all is_type_byte id.type_name ≡ true

facts_of : (id : Fields) → is_identifier id ≡ true → IsIdentifier id
facts_of id all =
    let p = each_holds (is_field id.host) (is_field id.plugin) (is_field id.plugin_instance)
    (is_field id.type_name) (is_field id.type_instance)
    (is_empty id.host) (is_empty id.plugin) (is_empty id.type_name)
    (has_slash id.host) (has_slash id.plugin) (has_slash id.plugin_instance)
    (list_all is_type_byte id.type_name) all in
    record {
      host = p.pa;
      plugin = p.pb;
      plugin_instance = p.pc;
      type_name = p.pd;
      type_instance = p.pe;
      some_host = p.pf;
      some_plugin = p.pg;
      some_type = p.ph;
      bare_host = p.pi;
      bare_plugin = p.pj;
      bare_instance = p.pk;
      letters = p.pl;
    }

identifier_from : (id : Fields) → IsIdentifier id → is_identifier id ≡ true
identifier_from id p =
    all_hold (is_field id.host) (is_field id.plugin) (is_field id.plugin_instance)
    (is_field id.type_name) (is_field id.type_instance)
    (is_empty id.host) (is_empty id.plugin) (is_empty id.type_name)
    (has_slash id.host) (has_slash id.plugin) (has_slash id.plugin_instance)
    (list_all is_type_byte id.type_name)
    p.host p.plugin p.plugin_instance p.type_name p.type_instance p.some_host p.some_plugin p.some_type
    p.bare_host p.bare_plugin p.bare_instance p.letters

-- ---- cleaned fields

-- a text that may be the host or the plugin
record IsName (text : List ℕ) : Type 0 where
  field : is_field text ≡ true
  some : is_empty text ≡ false
  bare : has_slash text ≡ false

name_after : (new : Option (List ℕ)) (old : List ℕ) → IsName old
    → IsName (option_map_or (λ text. field_or_old true old (clean_field true text)) new old)
name_after None old h = h
name_after (Some text) old h = step (is_empty (clean_field true text)) refl
  where
    step : (b : Bool) → is_empty (clean_field true text) ≡ b → IsName (cond b old (clean_field true text))
    step true e = h
    step false e = record { field = is_field-clean_field true text; some = e; bare = slash-clean_field true text refl }

instance_after : (new : Option (List ℕ)) (old : List ℕ) → is_field old ≡ true → has_slash old ≡ false
    → (is_field (option_map_or (λ text. clean_field true text) new old) ≡ true)
    × (has_slash (option_map_or (λ text. clean_field true text) new old) ≡ false)
instance_after None old field bare = (field, bare)
instance_after (Some text) old field bare = (is_field-clean_field true text, slash-clean_field true text refl)

type_instance_after : (new : Option (List ℕ)) (old : List ℕ) → is_field old ≡ true
    → is_field (option_map_or (λ text. clean_field false text) new old) ≡ true
type_instance_after None old field = field
type_instance_after (Some text) old field = is_field-clean_field false text

-- a target leaves an identifier
pub identifier_after : (target : Target) (id : Fields) → is_identifier id ≡ true
    → is_identifier (rewritten_fields target id) ≡ true
identifier_after target id h =
    let p : IsIdentifier id = facts_of id h in
    let host = name_after (text_of target Host id) id.host
    (record { field = p.host; some = p.some_host; bare = p.bare_host }) in
    let plugin = name_after (text_of target Plugin id) id.plugin
    (record { field = p.plugin; some = p.some_plugin; bare = p.bare_plugin }) in
    let instance = instance_after (text_of target PluginInstance id) id.plugin_instance
    p.plugin_instance p.bare_instance in
    identifier_from (rewritten_fields target id) (record {
      host = host.field;
      plugin = plugin.field;
      plugin_instance = instance.0;
      type_name = p.type_name;
      type_instance = type_instance_after (text_of target TypeInstance id) id.type_instance p.type_instance;
      some_host = host.some;
      some_plugin = plugin.some;
      some_type = p.some_type;
      bare_host = host.bare;
      bare_plugin = plugin.bare;
      bare_instance = instance.1;
      letters = p.letters;
    })

-- ---- the fields put in their places

-- an identifier by its fields
abbrev pub five : List ℕ → List ℕ → List ℕ → List ℕ → List ℕ → Fields
five a b c n d = record { host = a; plugin = b; plugin_instance = c; type_name = n; type_instance = d }

-- an identifier is what the target leaves of another
pub record Leaves (target : Target) (was new : Fields) : Type 0 where
  pub same : new ≡ rewritten_fields target was
  pub identifier : is_identifier new ≡ true

pub leaves : (target : Target) (was id : Fields) (a b c d : List ℕ) (h p i t : Option (List ℕ))
    → id ≡ was → is_identifier id ≡ true
    → unwrap_or h (field_of Host was) ≡ rewritten_field target Host was
    → unwrap_or p (field_of Plugin was) ≡ rewritten_field target Plugin was
    → unwrap_or i (field_of PluginInstance was) ≡ rewritten_field target PluginInstance was
    → unwrap_or t (field_of TypeInstance was) ≡ rewritten_field target TypeInstance was
    → a ≡ unwrap_or h id.host → b ≡ unwrap_or p id.plugin
    → c ≡ unwrap_or i id.plugin_instance → d ≡ unwrap_or t id.type_instance
    → Leaves target was (five a b c id.type_name d)
leaves target was id a b c d h p i t e all eh ep ei et ea eb ec ed =
    let host = rewritten_field target Host was in
    let plugin = rewritten_field target Plugin was in
    let instance = rewritten_field target PluginInstance was in
    let last = rewritten_field target TypeInstance was in
    let ha : a ≡ host = ea ∙ ap (λ (v : Fields). unwrap_or h v.host) e ∙ eh in
    let hb : b ≡ plugin = eb ∙ ap (λ (v : Fields). unwrap_or p v.plugin) e ∙ ep in
    let hc : c ≡ instance = ec ∙ ap (λ (v : Fields). unwrap_or i v.plugin_instance) e ∙ ei in
    let hd : d ≡ last = ed ∙ ap (λ (v : Fields). unwrap_or t v.type_instance) e ∙ et in
    let hn : id.type_name ≡ was.type_name = ap (λ (v : Fields). v.type_name) e in
    let same : five a b c id.type_name d ≡ rewritten_fields target was =
    ap (λ (x : List ℕ). five x b c id.type_name d) ha
    ∙ ap (λ (x : List ℕ). five host x c id.type_name d) hb
    ∙ ap (λ (x : List ℕ). five host plugin x id.type_name d) hc
    ∙ ap (λ (x : List ℕ). five host plugin instance x d) hn
    ∙ ap (λ (x : List ℕ). five host plugin instance was.type_name x) hd in
    let before : is_identifier was ≡ true = ap is_identifier (sym e) ∙ all in
    record { same = same; identifier = ap is_identifier same ∙ identifier_after target was before }

-- ---- the rest of a list

pub keeps_after : (target : Target) (list new : ValueList) → new ≡ rewritten target list → Keeps list new
keeps_after target list new e =
    record {
      type_name = ap (λ (v : ValueList). v.id.type_name) e;
      time = ap (λ (v : ValueList). v.time) e;
      interval = ap (λ (v : ValueList). v.interval) e;
      values = ap (λ (v : ValueList). v.values) e;
    }
