-- The types that a session speaks of, in one place.

-- of the events of a memory
pub use Rattle.memory_histories.specs.declared.events.HistoryEvent.{HistoryEvent}
pub use Rattle.memory_histories.specs.declared.events.HistoryEvent.TheVariants.{LoadRequest, LoadResponse, StoreRequest, StoreResponse}
pub use Rattle.memory_histories.specs.declared.events.TheConstants.{ALL_ENABLED}
pub use Rattle.memory_histories.specs.declared.events.HistoryFault.{HistoryFault}
pub use Rattle.memory_histories.specs.declared.events.HistoryFault.TheVariants.{OutOfRange, NoByteEnabled, NumberInUse, NotOpen}
pub use Rattle.memory_histories.specs.declared.events.HistoryFault.TheVariants.{WrongLength, WrongByte}
pub use Rattle.memory_histories.specs.declared.events.Rest.{Rest}
pub use Rattle.memory_histories.specs.declared.sets.ByteSet.{ByteSet}
pub use Rattle.memory_histories.specs.Sets.{has}
-- of laws
pub use Rattle.atomic_histories.specs.declared.memory.TheConstants.{DEFAULT_LIMIT}
pub use Rattle.atomic_histories.specs.declared.memory.UnitSize.{UnitSize}
pub use Rattle.atomic_histories.specs.declared.memory.UnitSize.TheVariants.{One, Two, Four, Eight}
pub use Rattle.atomic_histories.specs.Judge.{bytes_of}
pub use Rattle.history_sessions.specs.declared.judge.HistoryLaw.{HistoryLaw}
pub use Rattle.history_sessions.specs.declared.judge.HistoryLaw.TheVariants.{Flat, Atomic, Regular}
-- of stores and open operations
pub use Rattle.memory_histories.specs.declared.windows.StoreByte.{StoreByte}
pub use Rattle.history_reasons.specs.declared.Reason.{Reason}
pub use Rattle.history_reasons.specs.declared.Reason.TheVariants.{NeverThere, InitialOverwritten, StoreOverwritten}
pub use Rattle.history_reasons.specs.declared.givers.Source.{Source}
pub use Rattle.history_reasons.specs.declared.givers.Source.TheVariants.{Initial, Store}
pub use Rattle.history_reasons.specs.declared.open.OpenOperation.{OpenOperation}
pub use Rattle.history_reasons.specs.declared.units.FoundReason.{FoundReason}
pub use Rattle.history_reasons.specs.Open.{operation_under}
