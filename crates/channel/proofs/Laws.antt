-- The laws of an offer, whole. Assumes nothing.
use Rattle.channel.specs.Laws.{AllLaws}
use Rattle.channel.proofs.Tested.{taken_passes}
use Rattle.channel.proofs.Starts.{starts}
use Rattle.channel.proofs.NewsTold.{news}
use Rattle.channel.proofs.ZeroStrings.{new_frame_lem, absent_zero}
use Rattle.channel.proofs.StillHeld.{still_held}
use Rattle.channel.proofs.Again.{again, held_same}
use Rattle.channel.proofs.Counting.{ten_are_all}
use Rattle.channel.proofs.EitherWay.{either_way}

pub laws : AllLaws
laws =
    record {
      offers = λ row epoch s r long o. record {
        passes = taken_passes row epoch s r o;
        starts = starts row epoch s r o;
        new_frame_lem = new_frame_lem row epoch s r long o;
        again = again row epoch s r o;
        news = news row epoch s r long o;
      };
      rows = λ cs row run. record { absent = absent_zero cs row run; still_held = still_held cs row run; same = λ epoch s r. held_same cs row epoch s r run };
      ten = ten_are_all;
      either_way = either_way;
    }
