-- A lent life of a few calls, computed from the contracts: whatever the memory held. Assumes nothing.
use Rattle.std.specs.Prelude.{ℕ, true, List, [], ◌∷◌, ◌≡◌, refl, ℤ, pos, replicate}
use Rattle.strings.specs.Number.{word_of, number_of}
use Rattle.layout.specs.Layout.{layout}
use Rattle.words.specs.Values.{values_of, first_bad}
use Rattle.words.specs.Good.{is_good as isGoodString}
use Rattle.immediate.specs.Kept.{has_record}
use Rattle.channel.specs.Row.{empty_row}
use Rattle.fields.specs.Fields.{is_good, size_in}
use Rattle.fields.specs.Block.{call_in}
use Rattle.book.specs.Book.{empty_book}
use Rattle.summary.specs.Walk.{none_filled}
use Rattle.station.specs.declared.Station.{Station}
use Rattle.station.specs.Station.{fresh_station, is_served, station_reset}
use Rattle.station.specs.History.{Reset as MadeReset}
use Rattle.blocks.specs.Taking.{answer_in, after_call, after_calls, field_says, calls_at}
use Rattle.lent_queries.specs.Lent.{TellsHealth}
use Rattle.lent_life.specs.Life.{Next, Summary, Health, Entry, Book, Navigation, Fresh, Reset, Field, Join, Ask, Nothing, Number, Numbers, Words, Seen, seen, calls_of, none, then, summary, health, entry, book, navigation, next, fresh, reset, field, join, ask, LivesLent}
use Rattle.lent_life.specs.Histories.{history_in, is_alone, answers_seen}

-- a block of one field, a remark of no byte; and an output of thirteen words
abbrev pub silent : List ℕ
silent = 3 ∷ 0 ∷ 0 ∷ []

abbrev pub words : List ℤ
words = replicate 13 (pos 7)

-- in the order in which they are made, from the last up: emptied; a reset by no card; a remark, and the place after it; three bytes that are no book; an entry that
-- is not there; the other card's health; the summary; the book, into too few bytes; and a navigation record, of which nothing is there
abbrev pub few : List Seen
few =
    seen (Ask (Navigation 1 5 (7 ∷ []))) (Numbers 13 (7 ∷ []))
    ∷ seen (Ask (Book (0 ∷ 0 ∷ []))) (Numbers 12 (0 ∷ 0 ∷ []))
    ∷ seen (Ask (Summary 1 (9 ∷ 9 ∷ 9 ∷ []))) (Numbers 0 (0 ∷ 0 ∷ 0 ∷ []))
    ∷ seen (Ask (Health 1 24)) (Number 15)
    ∷ seen (Ask (Entry 2 5 words)) (Words 13 words)
    ∷ seen (Join (1 ∷ 2 ∷ 3 ∷ [])) (Number 2)
    ∷ seen (Ask (Next silent 0)) (Number 3)
    ∷ seen (Field 1 silent 0) (Number 3)
    ∷ seen (Reset 3 5) (Number 16)
    ∷ seen Fresh Nothing
    ∷ []

pub known : (from : Station) → LivesLent from few fresh_station
unfolding empty_book none_filled fresh_station is_served station_reset is_good size_in call_in answer_in after_call after_calls field_says calls_at TellsHealth
    has_record isGoodString first_bad layout values_of word_of number_of empty_row
known from =
    then _ _ _ _ _
    (then _ _ _ _ _
    (then _ _ _ _ _
    (then _ _ _ _ _
    (then _ _ _ _ _
    (then _ _ _ _ _
    (then _ _ _ _ _
    (then _ _ _ _ _
    (then _ _ _ _ _ (then _ _ _ _ _ none (fresh from fresh_station (record { station = refl }))) (reset fresh_station 3 5 fresh_station 16 (record { answer = refl; station = refl })))
    (field fresh_station 1 silent 0 fresh_station 3 (record { answer = refl; station = refl })))
    (ask fresh_station _ _ (next fresh_station silent 0)))
    (join fresh_station (1 ∷ 2 ∷ 3 ∷ []) fresh_station 2 (record { answer = refl; station = refl })))
    (ask fresh_station _ _ (entry fresh_station 2 5 words words 13 (record { answer = refl; output = refl }))))
    (ask fresh_station _ _ (health fresh_station 1 24 15 refl)))
    (ask fresh_station _ _ (summary fresh_station 1 (9 ∷ 9 ∷ 9 ∷ []) (0 ∷ 0 ∷ 0 ∷ []) 0 (record { answer = refl; output = refl }))))
    (ask fresh_station _ _ (book fresh_station (0 ∷ 0 ∷ []) (0 ∷ 0 ∷ []) 12 (record { answer = refl; bytes = refl }))))
    (ask fresh_station _ _ (navigation fresh_station 1 5 (7 ∷ []) (7 ∷ []) 13 (record { answer = refl; output = refl })))

-- as a history: one call, and its answer
pub read : (is_alone (calls_of few) ≡ true) × ((history_in (calls_of few) ≡ MadeReset 3 5 ∷ []) × (answers_seen few ≡ 16 ∷ []))
unfolding is_good call_in calls_at
read = (refl, (refl, refl))
