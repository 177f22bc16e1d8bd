-- The canonical text of items.
use Rattle.cd_conf.specs.declared.item.Arg.TheVariants.{Flag, Number, Words}
use Rattle.cd_conf.specs.declared.item.Arg.{Arg}
use Rattle.cd_conf.specs.declared.item.Item.TheFolds.{fold-Item}
use Rattle.cd_conf.specs.declared.item.Item.TheOpen.{Item-F}
use Rattle.cd_conf.specs.declared.item.Item.{Item}
use Rattle.cd_conf.specs.declared.limits.TheConstants.{DECIMALS_LIMIT}
use Rattle.cd_text.specs.Quoting.{quoted_of}
use Rattle.cd_value.specs.Print.{digit}
use Rattle.cd_value.specs.declared.numbers.TheConstants.{MILLIONTHS}
use Rattle.std.specs.Fmt.{decimal}
use Rattle.std.specs.List.{flat_map}
use Rattle.std.specs.Prelude.{List, [], codes, if◌then◌else◌, negsuc, pos, suc, zero, ℕ, ℤ, ◌%◌, ◌++◌, ◌/◌, ◌==◌, ◌^◌, ◌∷◌}

-- so many decimals of a number below 1, given in units of the last; no zero at the end
unfoldable pub decimals : ℕ → ℕ → List ℕ
decimals zero n = []
decimals (suc k) n = if n == 0 then [] else digit (n / 10 ^ k) ∷ decimals k (n % 10 ^ k)

-- a dot and decimals, where they aren't 0
abbrev pub fraction_text : ℕ → List ℕ
fraction_text n = if n == 0 then [] else 46 ∷ decimals DECIMALS_LIMIT n

-- millionths as a decimal number without needless zeros
abbrev pub unsigned_text : ℕ → List ℕ
unsigned_text n = decimal (n / MILLIONTHS) ++ fraction_text (n % MILLIONTHS)

abbrev pub number_text : ℤ → List ℕ
number_text (pos n) = unsigned_text n
number_text (negsuc n) = 45 ∷ unsigned_text (suc n)

-- a text in quotes, with a backslash before each `"` and `\`; a number; a flag
abbrev pub value_text : Arg → List ℕ
value_text (Words t) = quoted_of t
value_text (Number n) = number_text n
value_text (Flag b) = if b then codes "true" else codes "false"

abbrev pub spaced : Arg → List ℕ
spaced arg = 32 ∷ value_text arg

-- a key and its values
abbrev pub head_text : List ℕ → List Arg → List ℕ
head_text key args = key ++ flat_map spaced args

-- the lines of an option, of a section's start and of its end, behind an indent
abbrev pub option_text : List ℕ → List ℕ → List Arg → List ℕ
option_text indent key args = indent ++ head_text key args ++ codes "\n"

abbrev pub start_text : List ℕ → List ℕ → List Arg → List ℕ
start_text indent key args = indent ++ codes "<" ++ head_text key args ++ codes ">\n"

abbrev pub end_text : List ℕ → List ℕ → List ℕ
end_text indent key = indent ++ codes "</" ++ key ++ codes ">\n"

-- two spaces a level
abbrev pub deeper : List ℕ → List ℕ
deeper indent = indent ++ codes "  "

-- an item behind an indent, with the texts of what stands in it in its place
abbrev pub text_step : Item-F (List ℕ → List ℕ) → List ℕ → List ℕ
text_step i indent =
    if i.section
    then start_text indent i.key i.args ++ flat_map (λ child. child (deeper indent)) i.children
    ++ end_text indent i.key
    else option_text indent i.key i.args

abbrev pub item_text : Item → List ℕ → List ℕ
item_text = fold-Item (List ℕ → List ℕ) text_step

-- the canonical text of items
abbrev pub items_text : List Item → List ℕ
items_text items = flat_map (λ item. item_text item []) items
