-- Lines that were served in order.
use Rattle.cd_dialogue.specs.declared.server.Next.TheVariants as next
use Rattle.cd_dialogue.specs.declared.server.Next.{Next}
use Rattle.cd_sock.specs.Lines.{Cut}
use Rattle.std.specs.Prelude.{List, [], ℕ, ◌++◌, ◌∷◌, ◌≡◌}

-- the first line leads, with its reply, from the old server to another, and the other lines lead from there to the new
-- one; the text is that of all replies
abbrev pub Served : {S : Type 0} → (Cut → List ℕ → S → S → Type 0)
    → List Cut → List ℕ → S → S → Type 0
Served serves [] text old new = (text ≡ []) × (new ≡ old)
Served {S = S} serves (line ∷ lines) text old new =
    (between : S) × (reply : List ℕ) × (others : List ℕ) × (text ≡ reply ++ others)
    × serves line reply old between × Served serves lines others between new

module _ {S : Type 0} (serves : Next → Cut → List ℕ → S → S → Type 0) where
  -- the lines were served in order, and with the last of them the server closed the dialogue
  pub record ClosedAt (lines : List Cut) (text : List ℕ) (old new : S) : Type 0 where
    pub earlier : List Cut
    pub last : Cut
    pub lines_are : lines ≡ earlier ++ last ∷ []
    pub replies : List ℕ
    pub reply : List ℕ
    pub text_is : text ≡ replies ++ reply
    pub between : S
    pub served : Served (serves next.GoOn) earlier replies old between
    pub closed : serves next.Close last reply between new

  -- the lines were served in order, and the dialogue goes on or was closed with the last of them
  abbrev pub ServedTo : Next → List Cut → List ℕ → S → S → Type 0
  ServedTo next.GoOn = Served (serves next.GoOn)
  ServedTo next.Close = ClosedAt
