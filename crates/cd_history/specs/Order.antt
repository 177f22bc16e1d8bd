-- A history and its events in the order in which they came.
use Rattle.cd_history.specs.History.{Event, History}
use Rattle.std.specs.Prelude.{List, reverse, ◌++◌, ◌≡◌}

-- the history of events that stand with the oldest first; and of a history, its events so
abbrev pub history_of : List Event → History
history_of events = reverse events

-- P is the front of H: H has further events behind those of P
pub record IsFrontOf (P H : History) : Type 0 where
  pub later : History
  pub is : H ≡ later ++ P
