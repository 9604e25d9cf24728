-- Need not be believed: nothing is defined here. The structs and enums of src/lib.rt, under one name.
pub use Rattle.ds3231.specs.declared.Clock.{Clock}
pub use Rattle.ds3231.specs.declared.PendingTime.{PendingTime}
pub use Rattle.ds3231.specs.declared.Register.{Register}
pub use Rattle.ds3231.specs.declared.Register.TheVariants.{Seconds, Minutes, Hours, Weekday, Date, Month, Year, Alarm1Seconds, Alarm1Minutes, Alarm1Hours, Alarm1Day, Alarm2Minutes, Alarm2Hours, Alarm2Day, Control, Status, Aging, TemperatureMsb, TemperatureLsb}
pub use Rattle.ds3231.specs.declared.Phase.{Phase}
pub use Rattle.ds3231.specs.declared.Phase.TheVariants.{Released, Pointer, Writing, Reading, Ignoring}
pub use Rattle.ds3231.specs.declared.Timing.{Timing}
pub use Rattle.ds3231.specs.declared.Registers.{Registers}
pub use Rattle.ds3231.specs.declared.Ds3231.{Ds3231}
pub use Rattle.ds3231.specs.declared.Ds3231Config.{Ds3231Config}
pub use Rattle.ds3231.specs.declared.Event.{Event}
pub use Rattle.ds3231.specs.declared.Event.TheVariants.{Start, Write, Read, Stop}
pub use Rattle.ds3231.specs.declared.Reply.{Reply}
pub use Rattle.ds3231.specs.declared.Reply.TheVariants.{Acknowledge, Byte, Done}
