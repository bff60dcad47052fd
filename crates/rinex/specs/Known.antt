-- Records and times, computed.
-- Assumes nothing.
use Rattle.std.specs.Prelude.{◌++◌, ◌≡◌, pos, negsuc}
use Rattle.records.specs.declared.named.ImmediateWords.{ImmediateWords}
use Rattle.decimals.specs.Codes.{codes}
use Rattle.rinex.specs.Times.{frame_time}
use Rattle.rinex.specs.Record.{record_text}

-- a record in the form of the standard's example: n 3 of 15 February 1998, its words in raw units; its carrier number is 21
abbrev pub example : ImmediateWords
example =
    record {
      one = record { p1 = pos 0; tk = pos 768; xvel = negsuc 365873; xacc = pos 1; x = pos 21765305 };
      two = record { b = pos 0; p2 = pos 0; tb = pos 13; yvel = pos 3021612; yacc = pos 1; y = negsuc 19341763 };
      three = record { p3 = pos 0; gamma = pos 4; p = pos 0; l = pos 0; zvel = pos 1516234; zacc = negsuc 1; z = pos 43470291 };
      four = record { tau = negsuc 175583; dtau = pos 0; e = pos 3; p4 = pos 0; ft = pos 0; nt = pos 777; n = pos 3; m = pos 0 };
    }

-- string 1 to 5 of data/received-frame.bin: n 11 on 13 April 2016; the carrier number is not in that frame
abbrev pub received : ImmediateWords
received =
    record {
      one = record { p1 = pos 0; tk = pos 1865; xvel = negsuc 1524642; xacc = pos 0; x = pos 29953275 };
      two = record { b = pos 0; p2 = pos 1; tb = pos 59; yvel = pos 2380845; yacc = pos 1; y = negsuc 14498292 };
      three = record { p3 = pos 1; gamma = pos 0; p = pos 3; l = pos 0; zvel = pos 2002605; zacc = negsuc 1; z = pos 40188871 };
      four = record { tau = negsuc 29135; dtau = pos 8; e = pos 0; p4 = pos 1; ft = pos 3; nt = pos 104; n = pos 11; m = pos 1 };
    }

-- "a tb of 15 minutes falls on the day before at 21:15": day 1 of N4 1; the frame was sent at 0:00:30 of Moscow time. B 5, every bit of E, and ends of other words
abbrev pub new_year : ImmediateWords
new_year =
    record {
      one = record { p1 = pos 3; tk = pos 1; xvel = negsuc 8388606; xacc = pos 15; x = pos 67108863 };
      two = record { b = pos 5; p2 = pos 0; tb = pos 1; yvel = pos 1; yacc = negsuc 14; y = negsuc 0 };
      three = record { p3 = pos 0; gamma = negsuc 1022; p = pos 0; l = pos 0; zvel = negsuc 0; zacc = negsuc 0; z = pos 1 };
      four = record { tau = pos 2097151; dtau = pos 0; e = pos 31; p4 = pos 0; ft = pos 0; nt = pos 1; n = pos 24; m = pos 1 };
    }

-- the last quarter of an hour of N4 21, three hours before midnight; H 24 of an arbitrary book is written as itself
abbrev pub last : ImmediateWords
last =
    record {
      one = record { p1 = pos 0; tk = pos 3063; xvel = pos 0; xacc = pos 0; x = pos 0 };
      two = record { b = pos 7; p2 = pos 0; tb = pos 95; yvel = pos 0; yacc = pos 0; y = pos 0 };
      three = record { p3 = pos 0; gamma = pos 1023; p = pos 0; l = pos 0; zvel = pos 0; zacc = pos 0; z = pos 0 };
      four = record { tau = negsuc 0; dtau = pos 0; e = pos 1; p4 = pos 0; ft = pos 0; nt = pos 1461; n = pos 9; m = pos 1 };
    }

pub record Known : Type 0 where
  pub example_text :
      record_text example (pos 1) (pos 21)
      ≡ codes " 3 98  2 15  0 15  0.0 1.635253429413D-04 3.637978807092D-12 1.080000000000D+04\n"
      ++ codes "    1.062759033203D+04-3.489246368408D-01 9.313225746155D-10 0.000000000000D+00\n"
      ++ codes "   -9.444220703125D+03 2.881633758545D+00 9.313225746155D-10 2.100000000000D+01\n"
      ++ codes "    2.122572802734D+04 1.445993423462D+00-1.862645149231D-09 3.000000000000D+00\n"
  pub received_text :
      record_text received (pos 6) (pos 0)
      ≡ codes "11 16  4 13 11 45  0.0 2.713501453400D-05 0.000000000000D+00 4.179000000000D+04\n"
      ++ codes "    1.462562255859D+04-1.454012870789D+00 0.000000000000D+00 0.000000000000D+00\n"
      ++ codes "   -7.079244628906D+03 2.270550727844D+00 9.313225746155D-10 0.000000000000D+00\n"
      ++ codes "    1.962347216797D+04 1.909832954407D+00-1.862645149231D-09 0.000000000000D+00\n"
  pub new_year_text :
      record_text new_year (pos 1) (negsuc 6)
      ≡ codes "24 95 12 31 21 15  0.0-1.953124068677D-03-9.304130799137D-10 7.563000000000D+04\n"
      ++ codes "    3.276799951172D+04-7.999999046326D+00 1.396983861923D-08 5.000000000000D+00\n"
      ++ codes "   -4.882812500000D-04 9.536743164062D-07-1.396983861923D-08-7.000000000000D+00\n"
      ++ codes "    4.882812500000D-04-9.536743164062D-07-9.313225746155D-10 3.100000000000D+01\n"
  pub last_text :
      record_text last (pos 21) (pos 24)
      ≡ codes " 9 79 12 31 20 45  0.0 9.313225746155D-10 9.304130799137D-10 7.557000000000D+04\n"
      ++ codes "    0.000000000000D+00 0.000000000000D+00 0.000000000000D+00 7.000000000000D+00\n"
      ++ codes "    0.000000000000D+00 0.000000000000D+00 0.000000000000D+00 2.400000000000D+01\n"
      ++ codes "    0.000000000000D+00 0.000000000000D+00 0.000000000000D+00 1.000000000000D+00\n"
  -- the message frame time: at midnight, at three o'clock, and half a minute before midnight, of Moscow time
  pub at_midnight : frame_time 0 ≡ 75600
  pub at_three : frame_time 384 ≡ 0
  pub before_midnight : frame_time 3063 ≡ 75570
