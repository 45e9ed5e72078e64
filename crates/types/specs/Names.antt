-- The declared types, each variant under a name of its own.
pub use Rattle.types.specs.declared.Connection.TheVariants.{the_data as Connection, Unicast, Passthru, AllRemote, SomeLocal, Handed, Branch}
pub use Rattle.types.specs.declared.Received.TheVariants.{the_data as Received, End as got_end, Abort as got_abort}
pub use Rattle.types.specs.declared.Terminator.TheVariants.{the_data as Terminator, None as t_none, End as t_end}
pub use Rattle.types.specs.declared.Terminator.TheVariants.{Abort as t_abort, KeepLocal as t_keep}
pub use Rattle.types.specs.declared.Phase.TheVariants.{the_data as Phase, Free, Seek, Open, Wait, Done, Last}
pub use Rattle.types.specs.declared.Phase.TheVariants.{Abort as Aborted, FinAbort}
pub use Rattle.types.specs.declared.Sent.TheVariants.{the_data as Sent, Accepted, Refused as SendRefused}
pub use Rattle.types.specs.declared.Ran.TheVariants.{the_data as Ran, Nothing, Changed, Serviced, Refused as RunRefused}
