use Rattle.std.proofs.Common.{true}
use Rattle.assemble.proofs.CountLaws.{length-strip}
use Rattle.assemble.proofs.PlaceLaws.{list_takes, list_drops, strip_takes_even, strip_takes_odd}
use Rattle.assemble.proofs.draws.places_law.Goals as goal

pub returns : goal.returns
returns c = record {
  list = list_takes;
  list_end = list_drops;
  strip_even = strip_takes_even;
  strip_odd = strip_takes_odd;
  strip_end = length-strip true;
}
