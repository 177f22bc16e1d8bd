-- The tries of one call to draw a number.
use Rattle.atomic_table.specs.Seated.{TableId}
use Rattle.atomic_table.specs.Table.{Me}
use Rattle.atomic_table.specs.declared.shared.Seat.{Seat}
use Rattle.cd_turn.specs.Families.{IsNew}
use Rattle.cd_turn.specs.Passes.{IsFace, IsIdle, IsPass, Sound, refused, with_tries}
use Rattle.cd_turn.specs.declared.pass.Face.{Face}
use Rattle.cd_turn.specs.declared.view.View.{View}
use Rattle.std.proofs.Common.{List, Some, refl, subst, sym, ℕ, ◌++◌, ◌∙◌, ◌≡◌}

module _ {S K E : Type 0} where
  -- nothing was drawn yet: of the view, only what the tries found has grown
  pub record Trying (start m : Me S (View K E)) : Type 0 where
    pub view : m ≡ (with_tries start.0 m.0, start.1)
    pub since : (before : List (ℕ × ℕ)) × (m.0.found ≡ start.0.found ++ before)

  pub stays_idle : (start m : Me S (View K E)) → Trying start m → IsIdle start → IsIdle m
  stays_idle start m t idle = subst IsIdle (sym t.view) record { empty = idle.empty; live = idle.live; ticket = idle.ticket; holds = idle.holds; fresh = idle.fresh }

  pub new_since : (start m : Me S (View K E)) (n : ℕ) → Trying start m → IsNew m.0 n → IsNew start.0 n
  new_since start m n t new = subst (λ (x : Me S (View K E)). IsNew x.0 n) t.view new

  -- a pass that found the word i used up is a pass still
  pub refused_pass : (by : E → ℕ) (id : TableId) (old new : Seat S (View K E)) (f : Face) (i : ℕ) → IsPass by id old f → new.table_id ≡ old.table_id → new.me.1 ≡ old.me.1 → new.me.0 ≡ refused i (with_tries old.me.0 new.me.0)
      → IsPass by id new (record f { over = Some i })
  refused_pass by id old new f i p table slots rest =
      let v : View K E = refused i (with_tries old.me.0 new.me.0) in
      let me : new.me ≡ (v, old.me.1) = λ j. (rest j, slots j) in
      let s = p.sound in
      let idle : IsIdle {S = S} (v, old.me.1) = record { empty = p.idle.empty; live = p.idle.live; ticket = p.idle.ticket; holds = p.idle.holds; fresh = p.idle.fresh } in
      let sound : Sound by v = record { fixed = s.fixed; mine = s.mine; joined = s.joined; once = s.once; apart = s.apart; tally = s.tally; beginnings = s.beginnings } in
      record {
        table = table ∙ p.table;
        idle = subst IsIdle (sym me) idle;
        face = subst (IsFace (record f { over = Some i })) (sym rest) record { actor = p.face.actor; parent = p.face.parent; out = p.face.out; over = refl };
        sound = subst (Sound by) (sym rest) sound;
      }
