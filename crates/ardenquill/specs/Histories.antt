-- What the public calls promise of firings one after the other, handed on from the crates `events` (the puts and takes of one queue) and
-- `history` (the nodes of a chain that fired, in order, with their instants or without).
pub use Rattle.events.specs.Events.{Event, put, take, owed, Holds}
unfoldable pub use Rattle.events.specs.Events.{puts, takes, contents, Allowed, Settled}
pub use Rattle.events.specs.Peak.{room}
pub use Rattle.events.proofs.PeakLaws.{peak_law, peak_always}
pub use Rattle.events.proofs.NamingLaws.{naming_law}
unfoldable pub use Rattle.history.specs.History.{times, after, EachFiring}
pub use Rattle.history.specs.History.{Entry, nodes, Permitted, Prompt, AtSome, at_some, HasHeld, HeldExactly, after_append, each_append, each_before}
unfoldable pub use Rattle.history.specs.Queues.{seen, events}
pub use Rattle.history.specs.Queues.{seen_cases}
pub use Rattle.history.proofs.QueuesLaws.{times_again, times_other, events_append, puts_times, takes_times, held_contents, queue_allowed, queue_settled}
pub use Rattle.history.specs.Laws.{fresh_slots}
pub use Rattle.history.proofs.Laws.{fresh_contents, fresh_allowed, fresh_settled, counted, balance, naming, peak_end, peak, reached, counted_from}
