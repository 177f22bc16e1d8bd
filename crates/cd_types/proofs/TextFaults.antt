-- No text has the fault of a source, or lacks memory; and the line of a fault that is at no line is 0.
use Rattle.cd_io.specs.declared.source.ReadAllFault.TheVariants as source
use Rattle.cd_io.specs.declared.source.ReadAllFault.{ReadAllFault}
use Rattle.cd_reading.specs.First.{all_or_first, each_after, unless, ◌>>=◌}
use Rattle.cd_reading.specs.Gives.{Gives, Refuses}
use Rattle.cd_types.specs.Entry.{are_in_order, bound_of, is_comma, is_name, is_taken, kind_named, name_of, need, parts_of, source_behind, source_of, without_comma}
use Rattle.cd_types.specs.Faults.{at_line, fault_at, has_no_line, is_read_fault, is_read_kind, source_fault, text_fault, types_fault, unless_memory}
use Rattle.cd_types.specs.Line.{runs_of, set_of, set_of_line, set_of_runs, some_set, sources_of, without_return}
use Rattle.cd_types.specs.Sets.{with_sets}
use Rattle.cd_types.specs.Text.{is_newline, put_sets, sets_from, sets_of_text}
use Rattle.cd_types.specs.declared.fault.TypesFault.{TypesFault}
use Rattle.cd_types.specs.declared.fault.TypesKind.TheVariants as kinds
use Rattle.cd_types.specs.declared.fault.TypesKind.{TypesKind}
use Rattle.cd_types.specs.declared.limits.TheConstants.{FILE_LIMIT, NAME_LIMIT, SOURCES_LIMIT, SOURCE_NAME_LIMIT}
use Rattle.cd_value.specs.declared.data.DataSet.{DataSet}
use Rattle.cd_value.specs.declared.data.DataSource.{DataSource}
use Rattle.cd_value.specs.declared.data.DsType.{DsType}
use Rattle.std.proofs.Common.{Bool, Err, IfErr, IfSome, List, None, Ok, Option, Result, Some, [], ap, arith, false, if◌then◌else◌, length, refl, replicate, subst, suc, sym, true, ℕ, ℤ, ◌++◌, ◌+◌, ◌<◌, ◌==◌, ◌∙◌, ◌∷◌, ◌≡◌}
use Rattle.std.proofs.lemmas.Bool.{eqb-true, lt-leb}
use Rattle.std.proofs.lemmas.List.{length-replicate}
use Rattle.std.specs.List.{list_any, slice_split}
use Rattle.std.specs.Option.{option_to_list}
use Rattle.std.specs.Prelude.{nat_le, nat_lt, not, slice_index, ◌&&◌}
use Rattle.std.specs.Str.{is_utf8}

-- ---- a line

abbrev is_at_no_line : {A : Type 0} → Result A TypesKind → Bool
is_at_no_line (Ok x) = false
is_at_no_line (Err kind) = has_no_line kind

-- a fault that is at no line isn't what was read of a line
record IsOfLine {A : Type 0} (r : Result A TypesKind) : Type 0 where
  fact : is_at_no_line r ≡ false

bind : {A B : Type 0} (r : Result A TypesKind) (f : A → Result B TypesKind) → IsOfLine r → ((x : A) → IsOfLine (f x)) → IsOfLine (r >>= f)
bind (Ok x) f h g = g x
bind (Err e) f h g = record { fact = h.fact }

choose : {A : Type 0} (b : Bool) (x y : Result A TypesKind) → IsOfLine x → IsOfLine y → IsOfLine (if b then x else y)
choose true x y h g = h
choose false x y h g = g

of_one : {A : Type 0} (b : Bool) (kind : TypesKind) (x : A) → has_no_line kind ≡ false → IsOfLine (unless ((b, kind) ∷ []) x)
of_one true kind x h = record { fact = refl }
of_one false kind x h = record { fact = h }

of_two : {A : Type 0} (b d : Bool) (kind other : TypesKind) (x : A) → has_no_line kind ≡ false → has_no_line other ≡ false → IsOfLine (unless ((b, kind) ∷ (d, other) ∷ []) x)
of_two true d kind other x h g = of_one d other x g
of_two false d kind other x h g = record { fact = h }

of_need : {A : Type 0} (kind : TypesKind) (x : Option A) → has_no_line kind ≡ false → IsOfLine (need kind x)
of_need kind None h = record { fact = h }
of_need kind (Some x) h = record { fact = refl }

abbrev source_with : List ℕ → DsType → Option ℤ → Option ℤ → DataSource
source_with name kind min max = record { name = name; kind = kind; min = min; max = max }

of_parts : (taken : Bool) (parts : List (List ℕ)) → IsOfLine (source_of taken parts)
of_parts taken [] = record { fact = refl }
of_parts taken (n ∷ []) = record { fact = refl }
of_parts taken (n ∷ k ∷ []) = record { fact = refl }
of_parts taken (n ∷ k ∷ a ∷ []) = record { fact = refl }
of_parts taken (n ∷ k ∷ a ∷ b ∷ []) =
    bind (unless ((is_name SOURCE_NAME_LIMIT n && not taken, kinds.BadSource) ∷ []) n) _ (of_one (is_name SOURCE_NAME_LIMIT n && not taken) kinds.BadSource n refl)
    (λ name. bind (need kinds.BadKind (kind_named k)) _ (of_need kinds.BadKind (kind_named k) refl)
    (λ kind. bind (need kinds.BadBound (bound_of a)) _ (of_need kinds.BadBound (bound_of a) refl)
    (λ min. bind (need kinds.BadBound (bound_of b)) _ (of_need kinds.BadBound (bound_of b) refl)
    (λ max. of_one (are_in_order min max) kinds.BadBound (source_with name kind min max) refl))))
of_parts taken (n ∷ k ∷ a ∷ b ∷ e ∷ more) = record { fact = refl }

of_entry : (earlier : List (List ℕ)) (entry : List ℕ) → IsOfLine (source_behind earlier entry)
unfolding source_behind
of_entry earlier entry =
    let few : Bool = nat_lt (length earlier) SOURCES_LIMIT in
    let plain : Bool = not (list_any is_comma (without_comma entry)) in
    bind (unless ((few, kinds.TooMany) ∷ (plain, kinds.BadSource) ∷ []) entry) _ (of_two few plain kinds.TooMany kinds.BadSource entry refl refl)
    (λ e. of_parts (is_taken earlier (name_of e)) (parts_of e))

of_each : {X A : Type 0} (f : List X → X → Result A TypesKind) → ((before : List X) (x : X) → IsOfLine (f before x)) → (before xs : List X) → IsOfLine (all_or_first (each_after f before xs))
unfolding all_or_first each_after
of_each f h before [] = record { fact = refl }
of_each f h before (x ∷ xs) =
    bind (f before x) _ (h before x)
    (λ y. bind (all_or_first (each_after f (before ++ x ∷ []) xs)) (λ ys. Ok (y ∷ ys)) (of_each f h (before ++ x ∷ []) xs) (λ ys. record { fact = refl }))

of_set : (name : List ℕ) (entries : List (List ℕ)) → IsOfLine (set_of name entries)
of_set name entries =
    bind (unless ((is_name NAME_LIMIT name, kinds.BadName) ∷ (nat_lt 0 (length entries), kinds.BadSource) ∷ []) entries) _
    (of_two (is_name NAME_LIMIT name) (nat_lt 0 (length entries)) kinds.BadName kinds.BadSource entries refl refl)
    (λ es. bind (sources_of es) (λ sources. Ok (record { name = name; sources = sources })) (of_each source_behind of_entry [] es) (λ sources. record { fact = refl }))

of_runs : (runs : List (List ℕ)) → IsOfLine (set_of_runs runs)
of_runs [] = record { fact = refl }
of_runs (run ∷ runs) =
    choose (slice_index run 0 == 35) (Ok None) (set_of run runs >>= some_set) (record { fact = refl })
    (bind (set_of run runs) some_set (of_set run runs) (λ set. record { fact = refl }))

of_line : (line : List ℕ) → IsOfLine (set_of_line line)
unfolding set_of_line
of_line line = bind (unless ((is_utf8 line, kinds.NotText) ∷ []) line) _ (of_one (is_utf8 line) kinds.NotText line refl) (λ text. of_runs (runs_of (without_return text)))

-- ---- a text

abbrev is_memory : TypesKind → Bool
is_memory kinds.Memory = true
is_memory _ = false

-- the line of a fault that is at no line
abbrev pub line_is_0 : {X : Type 0} → Result X TypesFault → Type 0
line_is_0 r = IfErr r (λ fault. has_no_line fault.kind ≡ true → fault.line ≡ 0)

abbrev lacks_memory : {A : Type 0} → Result A TypesFault → Bool
lacks_memory (Ok x) = false
lacks_memory (Err fault) = is_memory fault.kind

-- a source's fault isn't what was read, nor is want of memory
pub record IsOfText {A : Type 0} (r : Result A TypesFault) : Type 0 where
  pub fact : is_read_fault r ≡ false
  pub memory : lacks_memory r ≡ false
  pub line : line_is_0 r

of_ok : {A : Type 0} (x : A) → IsOfText (Ok x)
of_ok x = record { fact = refl; memory = refl; line = tt }

bind_text : {A B : Type 0} (r : Result A TypesFault) (f : A → Result B TypesFault) → IsOfText r → ((x : A) → IsOfText (f x)) → IsOfText (r >>= f)
bind_text (Ok x) f h g = g x
bind_text (Err e) f h g = record { fact = h.fact; memory = h.memory; line = h.line }

no_read_kind : (kind : TypesKind) → has_no_line kind ≡ false → is_read_kind kind ≡ false
no_read_kind kinds.ReadFault h = absurd (cc h)
no_read_kind _ h = refl

no_memory : (kind : TypesKind) → has_no_line kind ≡ false → is_memory kind ≡ false
no_memory kinds.Memory h = absurd (cc h)
no_memory _ h = refl

of_number : {A : Type 0} (number : ℕ) (r : Result A TypesKind) → IsOfLine r → IsOfText (at_line number r)
of_number number (Ok x) h = of_ok x
of_number number (Err kind) h = record {
  fact = no_read_kind kind h.fact;
  memory = no_memory kind h.fact;
  line = λ at. let never : true ≡ false = sym at ∙ h.fact in absurd (cc never);
}

of_lines : (number : ℕ) (lines : List (List ℕ)) → IsOfText (sets_from number lines)
unfolding sets_from
of_lines number [] = of_ok []
of_lines number (line ∷ lines) =
    bind_text (at_line number (set_of_line line)) _ (of_number number (set_of_line line) (of_line line))
    (λ set. bind_text (sets_from (number + 1) lines) (λ sets. Ok (option_to_list set ++ sets)) (of_lines (number + 1) lines) (λ sets. of_ok (option_to_list set ++ sets)))

of_short : (short : Bool) (bytes : List ℕ) → IsOfText (unless ((short, fault_at kinds.TooLong 0) ∷ []) bytes)
of_short true bytes = of_ok bytes
of_short false bytes = record { fact = refl; memory = refl; line = λ at. refl }

pub of_text : (bytes : List ℕ) → IsOfText (sets_of_text bytes)
unfolding sets_of_text
of_text bytes =
    bind_text (unless ((nat_le (length bytes) FILE_LIMIT, fault_at kinds.TooLong 0) ∷ []) bytes) _ (of_short (nat_le (length bytes) FILE_LIMIT) bytes)
    (λ text. bind_text (sets_from 1 (slice_split is_newline text)) (λ sets. Ok (with_sets sets [])) (of_lines 1 (slice_split is_newline text)) (λ sets. of_ok (with_sets sets [])))

of_kind : {A : Type 0} (k : TypesKind) (f : TypesFault) (read : Result A TypesFault) → f.kind ≡ k → IsOfText read → Refuses (unless_memory k f) read → is_read_kind f.kind ≡ false
of_kind kinds.Memory f read e t h = ap is_read_kind e
of_kind kinds.ReadFault f read e t h = sym (ap is_read_fault h) ∙ t.fact
of_kind _ f read e t h = ap is_read_kind e

-- what is given of a text isn't the fault of a source
pub of_given : {X Y : Type 0} (view : X → Y) (r : Result X TypesFault) (read : Result Y TypesFault) → IsOfText read → Gives view types_fault r read → is_read_fault r ≡ false
of_given view (Ok x) read t h = refl
of_given view (Err f) read t h = of_kind f.kind f read refl t h

-- and it is the fault of the text
pub of_source : {X Y : Type 0} (view : X → Y) (r : Result X TypesFault) (read : Result Y TypesFault) → IsOfText read → Gives view types_fault r read → Gives view text_fault r read
of_source view (Ok x) read t h = h
of_source view (Err f) read t h =
    let no = of_given view (Err f) read t h in
    subst (λ (b : Bool). Refuses (if b then None else types_fault f) read) (sym no) h

-- what is given of a text has no line where the fault is at none
line_of_kind : {A : Type 0} (k : TypesKind) (f : TypesFault) (read : Result A TypesFault) → f.kind ≡ k → IsOfText read → Refuses (unless_memory k f) read → has_no_line f.kind ≡ true → f.line ≡ 0
line_of_kind kinds.Memory f read e t h at = by (f.line == 0) refl h
  where
    by : (b : Bool) → (f.line == 0) ≡ b → Refuses (if b then None else Some f) read → f.line ≡ 0
    by true zero h = eqb-true f.line 0 zero
    by false some h = let never : true ≡ false = sym (ap is_memory e) ∙ sym (ap lacks_memory h) ∙ t.memory in absurd (cc never)
line_of_kind _ f read e t h at = subst line_is_0 h t.line at

pub line_of_given : {X Y : Type 0} (view : X → Y) (r : Result X TypesFault) (read : Result Y TypesFault) → IsOfText read → Gives view types_fault r read → line_is_0 r
line_of_given view (Ok x) read t h = tt
line_of_given view (Err f) read t h = line_of_kind f.kind f read refl t h

-- ---- a source that wasn't read to its end

abbrev after_test : Bool → List ℕ → Result (List DataSet) TypesFault
after_test short bytes =
    unless ((short, fault_at kinds.TooLong 0) ∷ []) bytes >>= λ text.
    put_sets [] (sets_from 1 (slice_split is_newline text))

long_text : (bytes : List ℕ) → FILE_LIMIT < length bytes → sets_of_text bytes ≡ Err (fault_at kinds.TooLong 0)
unfolding sets_of_text
long_text bytes long = ap (λ (b : Bool). after_test b bytes) (lt-leb (length bytes) FILE_LIMIT long)

-- a text that is longer than a number
longer : (n : ℕ) → (bytes : List ℕ) × (n < length bytes)
longer n = (replicate (suc n) 0, (let l = length-replicate {A = ℕ} (suc n) 0 in omega (arith, l)))

pub not_whole : {X : Type 0} (view : X → List DataSet) (left : Option (List ℕ)) (why : ReadAllFault) → (why ≡ source.TooLong → IfSome left (λ bytes. FILE_LIMIT < length bytes))
    → (text : List ℕ) × IfSome left (λ bytes. bytes ≡ text) × Gives view text_fault (Err (source_fault why)) (sets_of_text text)
not_whole view None source.Failed h = ([], tt, tt)
not_whole view None source.TooLong h = let some = longer FILE_LIMIT in (some.0, tt, long_text some.0 some.1)
not_whole view None source.Memory h = ([], tt, tt)
not_whole view (Some bytes) source.Failed h = (bytes, refl, tt)
not_whole view (Some bytes) source.TooLong h = (bytes, refl, long_text bytes (h refl))
not_whole view (Some bytes) source.Memory h = (bytes, refl, tt)
