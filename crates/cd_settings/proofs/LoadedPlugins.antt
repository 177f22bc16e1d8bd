-- Plug-ins are loaded once, and what has a block is loaded and has one.
use Rattle.cd_settings.specs.Bounds.{ArePlugins, block_names}
use Rattle.cd_settings.specs.TopLevel.{is_among, with_block, with_name}
use Rattle.cd_settings.specs.declared.blocks.Block.{Block}
use Rattle.std.proofs.Common.{All, Bool, IsTrue, List, None, Some, [], ap, arith, bytes_eq, false, is_some, refl, subst, sym, true, ℕ, ◌++◌, ◌||◌, ◌∙◌, ◌∷◌, ◌≡◌}
use Rattle.std.proofs.lemmas.List.Elements.{All-push}
use Rattle.std.proofs.lemmas.List.Folds.{list_any-append}
use Rattle.std.proofs.lemmas.Map.Keys.{IsDistinct-push}
use Rattle.std.specs.Cmp.Lexicographic.{nat_list_eq_equiv}
use Rattle.std.specs.List.{IsDistinct, list_any}
use Rattle.std.specs.Prelude.{if◌then◌else◌}

abbrev IsLoaded : List (List ℕ) → List ℕ → Type 0
IsLoaded loaded name = IsTrue (is_among name loaded)

-- a block changes the names as a LoadPlugin changes those that are loaded
names_with : (blocks : List Block) (name text : List ℕ) → block_names (with_block blocks name text) ≡ with_name (block_names blocks) name
unfolding with_block
names_with [] name text = refl
names_with (block ∷ blocks) name text =
    by (bytes_eq block.name name) (bytes_eq name block.name) (nat_list_eq_equiv.symm block.name name) (is_among name (block_names blocks)) (names_with blocks name text)
  where
    by : (b c : Bool) → b ≡ c → (d : Bool) → block_names (with_block blocks name text) ≡ (if d then block_names blocks else block_names blocks ++ name ∷ [])
        → block_names (if b then record block { text = block.text ++ text } ∷ blocks else block ∷ with_block blocks name text)
        ≡ (if c || d then block.name ∷ block_names blocks else block.name ∷ (block_names blocks ++ name ∷ []))
    by true true e d rest = refl
    by true false e d rest = absurd (cc)
    by false true e d rest = absurd (cc)
    by false false e true rest = ap (λ (names : List (List ℕ)). block.name ∷ names) rest
    by false false e false rest = ap (λ (names : List (List ℕ)). block.name ∷ names) rest

among_more : (x name : List ℕ) (names : List (List ℕ)) → IsTrue (is_among x names) → IsTrue (is_among x (names ++ name ∷ []))
among_more x name names h = list_any-append (bytes_eq x) names (name ∷ []) ∙ ap (λ b. b || list_any (bytes_eq x) (name ∷ [])) h

pub load_keeps : (loaded : List (List ℕ)) (blocks : List Block) (name : List ℕ) → ArePlugins loaded blocks → ArePlugins (with_name loaded name) blocks
load_keeps loaded blocks name h = by (is_among name loaded) refl
  where
    by : (b : Bool) → is_among name loaded ≡ b → ArePlugins (if b then loaded else loaded ++ name ∷ []) blocks
    by true e = h
    by false e = record {
      once = IsDistinct-push nat_list_eq_equiv loaded name h.once e;
      one_block = h.one_block;
      blocks_loaded = λ k d lt. among_more _ name loaded (h.blocks_loaded k d lt);
    }

names_keep : (loaded names : List (List ℕ)) (name : List ℕ) → IsLoaded loaded name → IsDistinct bytes_eq names → All (IsLoaded loaded) names
    → IsDistinct bytes_eq (with_name names name) × All (IsLoaded loaded) (with_name names name)
names_keep loaded names name l once all = by (is_among name names) refl
  where
    by : (b : Bool) → is_among name names ≡ b
        → IsDistinct bytes_eq (if b then names else names ++ name ∷ []) × All (IsLoaded loaded) (if b then names else names ++ name ∷ [])
    by true e = (once, all)
    by false e = (IsDistinct-push nat_list_eq_equiv names name once e, All-push (IsLoaded loaded) names name all l)

pub block_keeps : (loaded : List (List ℕ)) (blocks : List Block) (name text : List ℕ) → IsTrue (is_among name loaded) → ArePlugins loaded blocks
    → ArePlugins loaded (with_block blocks name text)
block_keeps loaded blocks name text l h =
    let same : with_name (block_names blocks) name ≡ block_names (with_block blocks name text) = sym (names_with blocks name text) in
    let kept = names_keep loaded (block_names blocks) name l h.one_block h.blocks_loaded in
    record {
      once = h.once;
      one_block = subst (λ (names : List (List ℕ)). IsDistinct bytes_eq names) same kept.0;
      blocks_loaded = subst (λ (names : List (List ℕ)). All (IsLoaded loaded) names) same kept.1;
    }

pub none_keeps : ArePlugins [] []
unfolding IsDistinct
none_keeps = record { once = tt; one_block = tt; blocks_loaded = λ k d lt. absurd (omega arith) }

pub given_where : (b : Bool) (path : List ℕ) → is_some (if b then Some path else None) ≡ b
given_where true path = refl
given_where false path = refl
