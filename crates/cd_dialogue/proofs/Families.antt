-- The service of a whole input, by another fact on the lines and their replies that follows.
use Rattle.cd_dialogue.specs.Inputs.{AllServed, HearingFailed, LinkLost, MemoryLacked, TooMuch, lines_within}
use Rattle.cd_io.specs.Link.{LinkTells}
use Rattle.cd_sock.specs.Lines.{Cut, cut_lines}
use Rattle.std.proofs.Common.{List, Option, inl, inr, ℕ, ◌++◌}

module _ (holds follows : List Cut → List ℕ → Type 0) (shows : (lines : List Cut) (text : List ℕ) → holds lines text → follows lines text)
    (limit : ℕ) (before after : LinkTells) where
  pub AllServed-weaker : AllServed holds limit before after → AllServed follows limit before after
  AllServed-weaker a = record {
    heard = a.heard;
    text = a.text;
    short = a.short;
    served = shows (cut_lines a.heard) a.text a.served;
    spoke = a.spoke;
    faults = a.faults;
    over = a.over;
  }

  pub TooMuch-weaker : TooMuch holds limit before after → TooMuch follows limit before after
  TooMuch-weaker t = record {
    heard = t.heard;
    text = t.text;
    long = t.long;
    served = shows (lines_within limit t.heard) t.text t.served;
    exchanged = t.exchanged;
  }

  pub HearingFailed-weaker : HearingFailed holds limit before after → HearingFailed follows limit before after
  HearingFailed-weaker h = record {
    heard = h.heard;
    text = h.text;
    short = h.short;
    served = shows (lines_within limit h.heard) h.text h.served;
    spoke = h.spoke;
    rose = h.rose;
    quiets = h.quiets;
  }

  pub LinkLost-weaker : (holds_last follows_last : List Cut → List ℕ → Cut → List ℕ → Type 0)
      → ((earlier : List Cut) (replies : List ℕ) (last : Cut) (reply : List ℕ) → holds_last earlier replies last reply → follows_last earlier replies last reply)
      → LinkLost holds holds_last limit before after → LinkLost follows follows_last limit before after
  LinkLost-weaker holds_last follows_last shows_last (inl h) = inl (HearingFailed-weaker h)
  LinkLost-weaker holds_last follows_last shows_last (inr s) = inr (record {
    heard = s.heard;
    earlier = s.earlier;
    last = s.last;
    first = s.first;
    replies = s.replies;
    said = s.said;
    unsaid = s.unsaid;
    some = s.some;
    served = shows_last s.earlier s.replies s.last (s.said ++ s.unsaid) s.served;
    spoke = s.spoke;
    rose = s.rose;
  })

pub MemoryLacked-weaker : (holds follows : List Cut → Option Cut → List ℕ → Type 0)
    → ((lines : List Cut) (given_up : Option Cut) (text : List ℕ) → holds lines given_up text → follows lines given_up text)
    → (limit : ℕ) (before after : LinkTells) → MemoryLacked holds limit before after → MemoryLacked follows limit before after
MemoryLacked-weaker holds follows shows limit before after m = record {
  heard = m.heard;
  lines = m.lines;
  given_up = m.given_up;
  first = m.first;
  text = m.text;
  served = shows m.lines m.given_up m.text m.served;
  spoke = m.spoke;
  faults = m.faults;
}
