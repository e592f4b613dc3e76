-- What stops the opening of a store, or what an update needs next to it, stops the update.
use Rattle.hookhost.specs.declared.stop.CommandStop.{CommandStop}
use Rattle.hookhost.specs.declared.stop.CommandStop.TheVariants.{Usage, NotText, CannotUse, Refused, NoConfiguration, NoRepository, NoNewRepository, RefusedCommand}
use Rattle.hookhost.specs.Stops.{IsStopOfLookUp, IsStopOfOpening}

pub opening_stops : (stop : CommandStop) → IsStopOfOpening stop → IsStopOfLookUp stop
opening_stops (Usage error) h = absurd h
opening_stops NotText h = absurd h
opening_stops (CannotUse word) h = absurd h
opening_stops (Refused fault) h = absurd h
opening_stops (NoConfiguration fault) h = absurd h
opening_stops (NoRepository fault) h = tt
opening_stops (NoNewRepository fault) h = absurd h
opening_stops (RefusedCommand refusal) h = absurd h
