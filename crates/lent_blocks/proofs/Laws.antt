-- The laws of a field that is done on a lent station (laws): it is one that is taken by value (to-taken, from-taken), so a host that goes through a block does
-- what `Along` says (as-along).
-- Assumes nothing.
use Prim.Native.Nat.{ℕ, ◌+◌, ◌*◌, ◌/◌, ◌%◌, ◌<◌}
use native.Mathlib.Omega.{arith}
use mathlib.Core.List.{List, [], ◌∷◌, ◌++◌, map}
use mathlib.Core.Path.{◌≡◌, refl, sym, ap, subst, ◌∙◌}
use Rattle.strings.specs.Calls.{written_paper}
use Rattle.fields.specs.declared.Why.{Why}
use Rattle.std.specs.Prelude.{Result, ⊤}
use Rattle.fields.specs.declared.Why.TheVariants.{Tag, Length, Cut}
use Rattle.fields.specs.Fields.{size_at}
use Rattle.channel.specs.Offers.{answer_paper}
use Rattle.told.specs.Told.{packed}
use Rattle.station.specs.declared.Station.{Station}
use Rattle.blocks.specs.declared.Told.{Told}
use Rattle.blocks.specs.declared.Told.TheVariants.{End, Offered, Emptied, Remark, Refused}
use Rattle.blocks.specs.declared.Taken.{Taken}
use Rattle.blocks.specs.Taking.{told_paper, Takes}
use Rattle.blocks.specs.Handing.{is_last, ended_by}
use Rattle.blocks.specs.Along.{answers_in, Along, stops as along-stops, goes as along-goes}
use Rattle.blocks.proofs.Steps.{goes_on}
use Rattle.blocks.proofs.Along.{taken, takes}
use Rattle.blocks.proofs.Laws.{laws as block-laws}
use Rattle.lent_blocks.specs.Taking.{numbers_in, TakesLent}
use Rattle.lent_blocks.specs.Laws.{AsTaken, lowest_of, above_of, GoesThrough, stops, goes, answers_read, Laws}

-- ---- a byte with a number above it
byte_of : (k p : ℕ) → k < 256 → (k + 256 * p) % 256 ≡ k
byte_of k p l = omega (arith, l)

rest_of : (k p : ℕ) → k < 256 → (k + 256 * p) / 256 ≡ p
rest_of k p l = omega (arith, l)

-- ---- what a field led to: its number in the lowest byte, and the answer of its call above it
abbrev in_one : Told → ℕ
in_one t = packed (numbers_in (told_paper t))

one_byte : (t : Told) → in_one t % 256 ≡ lowest_of t
one_byte End = refl
one_byte (Offered a) = byte_of 1 (packed (answer_paper a)) (omega arith)
one_byte (Emptied a) = byte_of 2 (packed (written_paper a)) (omega arith)
one_byte Remark = refl
one_byte (Refused Tag at) = refl
one_byte (Refused Length at) = refl
one_byte (Refused Cut at) = refl

the_rest : (t : Told) → in_one t / 256 ≡ above_of t
the_rest End = refl
the_rest (Offered a) = rest_of 1 (packed (answer_paper a)) (omega arith)
the_rest (Emptied a) = rest_of 2 (packed (written_paper a)) (omega arith)
the_rest Remark = refl
the_rest (Refused Tag at) = refl
the_rest (Refused Length at) = refl
the_rest (Refused Cut at) = refl

read_one : (t : Told) (rs : List ℕ) → answers_read (in_one t ∷ rs) ≡ map packed (answers_in t) ++ answers_read rs
read_one End rs = refl
read_one (Offered a) rs = rw (one_byte (Offered a), the_rest (Offered a)) refl
read_one (Emptied a) rs = rw (one_byte (Emptied a), the_rest (Emptied a)) refl
read_one Remark rs = refl
read_one (Refused Tag at) rs = refl
read_one (Refused Length at) rs = refl
read_one (Refused Cut at) rs = refl

-- ---- by value
module _ {st : Station} {card : ℕ} {block : List ℕ} {at : ℕ} {st' : Station} {r : ℕ} where
  to_taken : TakesLent st card block at st' r → AsTaken st card block at st' r
  to_taken t =
      let w = takes st card block at in
      record { taken = taken st card block at; takes = w; answer = t.answer ∙ ap (λ (l : List ℕ). packed (numbers_in l)) (sym w.answer); station = t.station ∙ sym w.station }

  from_taken : AsTaken st card block at st' r → TakesLent st card block at st' r
  from_taken t =
      record { answer = t.answer ∙ ap (λ (l : List ℕ). packed (numbers_in l)) t.takes.answer; station = t.station ∙ t.takes.station }

  module _ {q : Taken} (t : TakesLent st card block at st' r) (k : Takes st card block at q) where
    by_value : r ≡ in_one q.told
    by_value = t.answer ∙ ap (λ (l : List ℕ). packed (numbers_in l)) (sym k.answer)

    lowest : r % 256 ≡ lowest_of q.told
    lowest = ap (λ (n : ℕ). n % 256) by_value ∙ one_byte q.told

    above : r / 256 ≡ above_of q.told
    above = ap (λ (n : ℕ). n / 256) by_value ∙ the_rest q.told

-- ---- a whole block
record AsAlong (card : ℕ) (block : List ℕ) (st : Station) (at : ℕ) (rs : List ℕ) (last : Station) : Type 0 where
  answers : List (List ℕ)
  ended : Result ⊤ (Why × ℕ)
  along : Along card block st at answers last ended
  read : answers_read rs ≡ map packed answers

map_append : (xs ys : List (List ℕ)) → map packed (xs ++ ys) ≡ map packed xs ++ map packed ys
map_append [] ys = refl
map_append (x ∷ xs) ys = ap (λ (l : List ℕ). packed x ∷ l) (map_append xs ys)

-- where the place does not move there is no call: a call's field has bytes
none_there : (t : Told) → answers_in t ≡ [] → map packed (answers_in t) ++ [] ≡ []
none_there t e = ap (λ (l : List (List ℕ)). map packed l ++ []) e

unmoved : {st : Station} {card : ℕ} {block : List ℕ} {at : ℕ} {r : Taken} → Takes st card block at r → r.after ≡ at → answers_in r.told ≡ []
unmoved {r = r} t e = by r.told refl
  where
    by : (told : Told) → r.told ≡ told → answers_in r.told ≡ []
    by End p = ap answers_in p
    by (Offered a) p = absurd (goes_on t (ap is_last p) e)
    by (Emptied a) p = absurd (goes_on t (ap is_last p) e)
    by Remark p = ap answers_in p
    by (Refused why at) p = ap answers_in p

as_along : (card : ℕ) (block : List ℕ) (st : Station) (at : ℕ) (rs : List ℕ) (last : Station) → GoesThrough card block st at rs last → AsAlong card block st at rs last
as_along card block st at rs last (stops s k s' r t e) =
    let w = to_taken t in
    let a = w.takes in
    let n = a.next ∙ e in
    record {
      answers = [];
      ended = ended_by w.taken.told;
      along = subst (λ (x : Station). Along card block s k [] x (ended_by w.taken.told)) (sym w.station) (along-stops s k w.taken a n);
      read = ap (λ (j : ℕ). answers_read (j ∷ [])) w.answer ∙ read_one w.taken.told [] ∙ none_there w.taken.told (unmoved a n);
    }
as_along card block st at rs last (goes s k s' r more l t n g) =
    let w = to_taken t in
    let a = w.takes in
    let v : AsAlong card block w.taken.station w.taken.after more l =
    subst (λ (j : ℕ). AsAlong card block w.taken.station j more l) (sym a.next)
    (subst (λ (x : Station). AsAlong card block x (k + size_at block k) more l) w.station (as_along card block s' (k + size_at block k) more l g)) in
    record {
      answers = answers_in w.taken.told ++ v.answers;
      ended = v.ended;
      along = along-goes s k w.taken v.answers l v.ended a (λ e. n (sym a.next ∙ e)) v.along;
      read = ap (λ (j : ℕ). answers_read (j ∷ more)) w.answer ∙ read_one w.taken.told more ∙ ap (λ (x : List ℕ). map packed (answers_in w.taken.told) ++ x) v.read
          ∙ sym (map_append (answers_in w.taken.told) v.answers);
    }

-- ALL OF THEM
pub laws : Laws
laws =
    record {
      as_taken = λ st card block at st' r. (to_taken, from_taken);
      lowest = λ st card block at st' r q. lowest;
      above = λ st card block at st' r q. above;
      same_station = λ st card block rs last h g o. let w = as_along card block st 0 rs last g in (block-laws.same_station st card block w.answers last w.ended h w.along o).0;
      same_answers = λ st card block rs last g. let w = as_along card block st 0 rs last g in w.read ∙ ap (map packed) (block-laws.as_calls st card block w.answers last w.ended w.along).same_answers;
    }
