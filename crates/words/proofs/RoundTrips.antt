-- The reader and the encoder, over their public relations Reads and Writes. No second answer fits: read-once, write-once. Each number exactly where
-- it belongs: read-numbers, write-numbers; a refusal writes nothing: write-untouched. What was written is read: written-then-read; and a good string
-- with one bit flipped as the string itself: flip-reads-alike. What was read is written again: read-then-written, with tidied-is and tidied-only to
-- say which string that is, and comes_back, where it is the same. What is written has no minus zero and no reserved bit at 1: written-tidy.
-- Assumes nothing.
use mathlib.Core.Path.{◌≡◌, refl, sym, ap, ap₂, ◌∙◌, subst}
use mathlib.Core.Bool.{Bool, true, false, not, ◌&&◌, ◌||◌, true≢false}
use mathlib.Core.List.{List, [], ◌∷◌, ◌++◌}
use mathlib.Core.Logic.{⊎_elim}
use Prim.Native.Nat.{ℕ, suc, ◌+◌, ◌-◌, ◌*◌, ◌/◌, ◌%◌, ◌^◌, ◌≤◌, ◌<◌, suc-le-suc}
use native.Mathlib.Nat.{mod-lt, zero-lt-suc}
use native.Mathlib.Omega.{arith}
use borrow.Author.Tests.{eq-eqb, ne_eqb, eqb-true, leb-true, not-false}
use lib.Dec.{T, eqb, leb, lit<, lit≤}
use lib.IntN.{ℤ, pos}
use lib.ListN.{length, get_or, drop}
use lib.Pow.{shr-shr}
use Rattle.strings.specs.declared.Refusal.{Refusal}
use Rattle.strings.specs.declared.Verdict.{Verdict}
use Rattle.std.specs.Prelude.{Result, Ok, Err, ⊤}
use Rattle.strings.specs.declared.Verdict.TheVariants.{Clean, Repaired}
use Rattle.strings.specs.Pick.{pick}
use Rattle.strings.specs.Number.{Bytes, number_of, misshapen, bit_of, word_of, flip, bytes_of_string}
use Rattle.strings.specs.Hamming.{is_damaged, mended, Encoded, Whole, encode}
use Rattle.strings.specs.Numbers.{Test, first_of, place_of, said_by, Exactly}
use Rattle.strings.specs.Calls.{written_paper, no_room, Checks, sound_tests}
use Rattle.strings.proofs.Digits.{flip_lt, flip_undo, bits_same, three}
use Rattle.strings.proofs.WordOf.{bit_in_word, word_split}
use Rattle.strings.proofs.Value.{string_number_lem, bytes_of_string_lem}
use Rattle.strings.proofs.Shape.{string_shaped, has_room_lem, shaped}
use Rattle.strings.proofs.Below.{unfit, both}
use Rattle.strings.proofs.Answer.{goes_on, takes, same_answer, refusal_same, written_same, exactly, first_given, taken_made, refused_left}
use Rattle.strings.proofs.Tests.{past_first}
use Rattle.strings.proofs.SoundTests.{sound_first, sound_then, sound_same}
use Rattle.strings.proofs.Encode.{encode_encoded, encode_stays, encode_lt, encoded_once}
use Rattle.strings.proofs.CheckRule.{encoded_clean}
use Rattle.strings.proofs.Flips.{encoded_ruling, one_flip_ruling}
use Rattle.strings.proofs.Judge.{mended_by_lem}
use Rattle.layout.specs.declared.table.Form.{Form}
use Rattle.layout.specs.declared.table.Form.TheVariants.{Signed}
use Rattle.layout.specs.declared.table.Word.{Word}
use Rattle.records.specs.declared.kinds.Kind.{Kind}
use Rattle.records.specs.declared.named.Record.{Record}
use Rattle.layout.specs.Layout.{layout, none, kind_number, of_kind}
use Rattle.layout.specs.Reserved.{in_words}
use Rattle.words.specs.Values.{code_as, code_in, values_of, first_bad, data_of}
use Rattle.records.specs.Records.{kind_of, list_of, record_of}
use Rattle.words.specs.Calls.{number_in, word_tests, read_tests, reading_paper, reading_words, Reads, write_tests, string_of, Writes}
use Rattle.words.specs.Taken.{IsRead, IsWritten}
use Rattle.words.specs.Tidied.{word_at, bits_in, tidy_words, tidied, Tidy, NoStray}
use Rattle.records.proofs.RecordLists.{list_long, record_list}
use Rattle.words.proofs.RecordLists.{kind_same, of_kind_lem}
use Rattle.layout.proofs.Rows.{layout_long, placed_at}
use Rattle.layout.proofs.ReservedBits.{reserved_free}
use Rattle.words.proofs.Loops.{values_long}
use Rattle.words.proofs.Sign.{never_minus_zero}
use Rattle.words.proofs.Fits.{half_of, form_test, form_test_lem, test_at_lem, signed_near, range_at, data_lt, sound_at, layout_laid, kind_fit, kind_data_lt}
use Rattle.words.proofs.Trip.{kind_values, kind_values_same, data_values, read_fit, bit_same, word_same, word_data, code_read, gap_data}

-- ---- a reading is known by its numbers and its words
pub reading_same : (q p : Result (ℕ × Record) Refusal) → reading_paper q ≡ reading_paper p → reading_words q ≡ reading_words p → q ≡ p
unfolding reading_words
reading_same (Ok (m, r)) (Ok (n, s)) e f =
    let g : kind_of r ≡ kind_of s = kind_same (kind_of r) (kind_of s) (ap (λ (l : List ℕ). get_or l 2 0) e) in
    ap₂ (λ (k : ℕ) (t : Record). Ok (k, t)) (ap (λ (l : List ℕ). get_or l 1 0) e) (sym (record_list r) ∙ ap₂ record_of g f ∙ record_list s)
reading_same (Ok (m, r)) (Err p) e f = absurd (omega (arith, list_long r, ap length f))
reading_same (Err q) (Ok (n, s)) e f = absurd (omega (arith, list_long s, ap length f))
reading_same (Err q) (Err p) e f = ap Err (refusal_same q p e)

-- ---- NO SECOND ANSWER FITS, AND EACH NUMBER EXACTLY: the reader
module _ (s : List ℕ) (k : Kind) where
  pub read_once : (q p : Result (ℕ × Record) Refusal) → Reads s k q → Reads s k p → q ≡ p
  unfolding Reads
  read_once q p a b = reading_same q p (a.answer ∙ sym b.answer) (a.words ∙ sym b.words)

  pub read_numbers : (q : Result (ℕ × Record) Refusal) → Reads s k q → Exactly (read_tests s k) (reading_paper q)
  unfolding Reads sound_tests
  read_numbers q a = exactly {made = []} {out = []} tt (record { answer = a.answer; output = refl })

-- the encoder
module _ (m : ℕ) (r : Record) (out : List ℕ) where
  pub write_once : (w v : Result ⊤ Refusal) (out' out'' : List ℕ) → Writes m r out w out' → Writes m r out v out'' → (w ≡ v) × (out' ≡ out'')
  unfolding Writes
  write_once w v out' out'' a b = let e = same_answer a b in (written_same w v e.0, e.1)

  -- "Refusals leave outputs untouched"
  pub write_untouched : (q : Refusal) (out' : List ℕ) → Writes m r out (Err q) out' → out' ≡ out
  unfolding Writes
  write_untouched q out' a = refused_left q a

  pub write_numbers : (w : Result ⊤ Refusal) (out' : List ℕ) → Writes m r out w out' → Exactly (write_tests m r out) (written_paper w)
  unfolding Writes
  write_numbers w out' a = exactly tt a

-- ---- what it takes to be read
module _ (s : List ℕ) (k : Kind) (m : ℕ) (r : Record) where
  abbrev after : List Test
  after = word_tests (mended (number_of s)) k

  none_fits_lem : IsRead s k m r → first_of (read_tests s k) ≡ 0
  none_fits_lem i =
      let p = sound_then (number_of s) (record { sound = i.sound; idle = i.idle }) after in
      rw (i.shape, p.0, i.numbered, i.place, eq-eqb _ 0 i.range)

  pub reads : IsRead s k m r → Reads s k (Ok (m, r))
  unfolding Reads reading_words
  reads i =
      let n = mended (number_of s) in
      let ts = read_tests s k in
      let z = none_fits_lem i in
      record {
        answer = ap₂ (λ (a b : ℕ). 0 ∷ a ∷ b ∷ []) i.number (ap kind_number i.kind) ∙ sym (ap (λ (x : ℕ). said_by x (place_of ts) (number_in n ∷ kind_number k ∷ [])) z);
        words = i.words ∙ sym (ap (λ (x : ℕ). pick (eqb x 0) (values_of n (layout k)) []) z);
      }

  pub is_read : Reads s k (Ok (m, r)) → IsRead s k m r
  unfolding Reads reading_words
  is_read a =
      let n = mended (number_of s) in
      let ts = read_tests s k in
      let z = first_given ts (number_in n ∷ kind_number k ∷ []) a.answer in
      let shape = past_first 1 (misshapen s) (sound_tests (number_of s) ++ after) z in
      let sound = sound_first (number_of s) after shape.1 in
      let numbered = past_first 4 (eqb (number_in n) 0) (drop 1 after) sound.1 in
      let place = past_first 10 (not (of_kind k (number_in n))) (drop 2 after) numbered.1 in
      let range = past_first 9 (not (eqb (first_bad (layout k) (values_of n (layout k))) 0)) (drop 3 after) place.1 in
      let e = a.answer ∙ ap (λ (x : ℕ). said_by x (place_of ts) (number_in n ∷ kind_number k ∷ [])) z in
      record {
        shape = shape.0;
        sound = sound.0.sound;
        idle = sound.0.idle;
        numbered = numbered.0;
        place = not-false (of_kind k (number_in n)) place.0;
        range = eqb-true _ 0 (not-false _ range.0);
        number = ap (λ (l : List ℕ). get_or l 1 0) e;
        kind = kind_same (kind_of r) k (ap (λ (l : List ℕ). get_or l 2 0) e);
        words = a.words ∙ ap (λ (x : ℕ). pick (eqb x 0) (values_of n (layout k)) []) z;
      }

-- ---- and to be written
module _ (m : ℕ) (r : Record) (out out' : List ℕ) where
  pub writes : IsWritten m r out out' → Writes m r out (Ok tt) out'
  unfolding Writes
  writes i =
      goes_on 12 (has_room_lem out i.room) (goes_on 11 (ap not i.place) (goes_on 10 (ap not (eq-eqb _ 0 i.range)) (takes refl i.output)))

  pub is_written : Writes m r out (Ok tt) out' → IsWritten m r out out'
  unfolding Writes
  is_written a =
      let clear = (write_numbers m r out (Ok tt) out' a).taken.0 refl in
      record {
        room = eqb-true _ 11 (not-false _ (unfit (no_room out) (clear 0 (lit< tt))));
        place = not-false _ (unfit (not (of_kind (kind_of r) m)) (clear 1 (lit< tt)));
        range = eqb-true _ 0 (not-false _ (unfit (not (eqb (first_bad (layout (kind_of r)) (list_of r)) 0)) (clear 2 (lit< tt))));
        output = taken_made [] a;
      }

-- ---- m above 80 bits of data, with the check bits made
module _ (m d : ℕ) (h : m ≤ 15) (l : d < 2 ^ 80) where
  abbrev made : ℕ
  made = encode (m * 2 ^ 80 + d)

  made_lt : made < 2 ^ 85
  made_lt = encode_lt (m * 2 ^ 80 + d) (omega arith)

  made_idle : bit_of made 85 ≡ 0
  made_idle = bit_same made (m * 2 ^ 80 + d) 85 (encode_stays (m * 2 ^ 80 + d)) (lit≤ tt) ∙ omega arith

  made_number : number_in made ≡ m
  unfolding word_of
  made_number = word_same made (m * 2 ^ 80 + d) 84 81 (encode_stays (m * 2 ^ 80 + d)) (lit≤ tt) ∙ omega arith

-- ---- WRITTEN, THEN READ: what was written is read, with its m and every word, whatever the kind. That it was written says that `out` had room, that
-- m is of the kind and that every word is in range
module _ (m : ℕ) (r : Record) (out out' : List ℕ) (a : Writes m r out (Ok tt) out') where
  abbrev words_of : ℕ
  words_of = data_of (layout (kind_of r)) (list_of r)

  facts : IsWritten m r out out'
  facts = is_written m r out out' a

  m_lt : m ≤ 15
  m_lt = (of_kind_lem (kind_of r) m facts.place).1

  words_lt : words_of < 2 ^ 80
  words_lt = kind_data_lt (kind_of r) (list_of r) (list_long r) facts.range

  -- the bytes of an encoded string whose idle bit is 0
  pub written_whole : Whole out'
  unfolding string_of
  written_whole =
      record {
        number = made m words_of m_lt words_lt;
        small = made_lt m words_of m_lt words_lt;
        bytes = facts.output;
        encoded = encode_encoded (m * 2 ^ 80 + words_of);
        idle = made_idle m words_of m_lt words_lt;
      }

  written_number : number_of out' ≡ made m words_of m_lt words_lt
  unfolding string_of
  written_number = ap number_of facts.output ∙ string_number_lem (made m words_of m_lt words_lt) (made_lt m words_of m_lt words_lt)

  -- which has m and the values of the record
  pub written_values : (number_in (number_of out') ≡ m) × (values_of (number_of out') (layout (kind_of r)) ≡ list_of r)
  written_values =
      let k = kind_of r in
      let x = m * 2 ^ 80 + words_of in (
        ap number_in written_number ∙ made_number m words_of m_lt words_lt,
        ap (λ (n : ℕ). values_of n (layout k)) written_number
            ∙ kind_values_same k (encode x) x (encode_stays x) ∙ kind_values k (list_of r) (list_long r) facts.range m,
      )

  -- which the public check takes as clean
  pub written_clean : (room left : List ℕ) (c : Result Verdict Refusal) → length room ≡ 11 → Checks out' room c left → (c ≡ Ok Clean) × (left ≡ out')
  written_clean room left c n b =
      let w = written_whole in
      let e = encoded_clean w.number w.small w.encoded room n c left w.idle (subst (λ (s : List ℕ). Checks s room c left) w.bytes b) in
      (e.0, e.1 ∙ sym w.bytes)

  written_read : Reads (bytes_of_string (made m words_of m_lt words_lt)) (kind_of r) (Ok (m, r))
  written_read =
      let k = kind_of r in
      let x = m * 2 ^ 80 + words_of in
      let n = made m words_of m_lt words_lt in
      let b : number_of (bytes_of_string n) ≡ n = string_number_lem n (made_lt m words_of m_lt words_lt) in
      let e : mended (number_of (bytes_of_string n)) ≡ n = ap mended b ∙ mended_by_lem n Clean (encoded_ruling n (encode_encoded x)) in
      let i = made_number m words_of m_lt words_lt in
      let v : values_of n (layout k) ≡ list_of r = kind_values_same k n x (encode_stays x) ∙ kind_values k (list_of r) (list_long r) facts.range m in
      reads (bytes_of_string n) k m r
      (record {
        shape = string_shaped n (made_lt m words_of m_lt words_lt);
        sound = rw (b, encoded_ruling n (encode_encoded x));
        idle = rw (e, made_idle m words_of m_lt words_lt);
        numbered = rw (e, i) (ne_eqb m 0 (omega (arith, (of_kind_lem k m facts.place).0)));
        place = rw (e, i) facts.place;
        range = rw (e, v) facts.range;
        number = rw (e, i);
        kind = refl;
        words = rw (e, v);
      })

  pub written_then_read : (q : Result (ℕ × Record) Refusal) → Reads out' (kind_of r) q → q ≡ Ok (m, r)
  unfolding string_of
  written_then_read q b = read_once out' (kind_of r) q (Ok (m, r)) b (subst (λ (s : List ℕ). Reads s (kind_of r) (Ok (m, r))) (sym facts.output) written_read)

  -- ---- WHAT IS WRITTEN IS TIDY, of every record: no minus zero, no reserved bit at 1
  word_written : (j : ℕ) → j < 8 → bits_in (number_of out') (word_at (kind_of r) j) ≡ code_in (word_at (kind_of r) j) (get_or (list_of r) j (pos 0))
  word_written j l =
      let ws = layout (kind_of r) in
      let w = word_at (kind_of r) j in
      let x = m * 2 ^ 80 + words_of in
      ap (λ (n : ℕ). bits_in n w) written_number
      ∙ word_same (encode x) x w.top w.low (encode_stays x) (sound_at 80 ws (layout_laid (kind_of r)) j).above
      ∙ word_data ws (list_of r) m 80 (layout_laid (kind_of r)) (list_long r ∙ sym (layout_long (kind_of r))) (kind_fit (kind_of r) (list_of r) (list_long r) facts.range) j (omega (arith, layout_long (kind_of r)))

  sign_written : (j : ℕ) → j < 8 → (word_at (kind_of r) j).form ≡ Signed → bits_in (number_of out') (word_at (kind_of r) j) ≡ 2 ^ ((word_at (kind_of r) j).top - (word_at (kind_of r) j).low) → ⊥
  sign_written j l f e =
      let ws = layout (kind_of r) in
      let w = word_at (kind_of r) j in
      let z = get_or (list_of r) j (pos 0) in
      let t = subst (λ (g : Form). T (form_test g w)) f (form_test_lem w (test_at_lem 80 ws (layout_laid (kind_of r)) j)) in
      let i = range_at ws (list_of r) 80 (layout_laid (kind_of r)) (list_long r ∙ sym (layout_long (kind_of r))) facts.range j (omega (arith, layout_long (kind_of r))) in
      never_minus_zero (half_of w) z (signed_near w t z i)
      (ap (λ (g : Form). code_as g (half_of w) z) (sym f) ∙ sym (word_written j l) ∙ e)

  gap_written : (i : ℕ) → 9 ≤ i → i ≤ 80 → in_words (layout (kind_of r)) i ≡ false → bit_of (number_of out') i ≡ 0
  gap_written i l u g =
      let x = m * 2 ^ 80 + words_of in
      ap (λ (n : ℕ). bit_of n i) written_number ∙ bit_same (encode x) x i (encode_stays x) l
      ∙ gap_data (layout (kind_of r)) (list_of r) m 80 (layout_laid (kind_of r)) (kind_fit (kind_of r) (list_of r) (list_long r) facts.range) i (omega arith) u g

  pub written_tidy : NoStray (kind_of r) (number_of out')
  written_tidy =
      record {
        no_minus_zero = λ j l f s z. let w = word_at (kind_of r) j in
            let p = placed_at (kind_of r) j l in
            let n = number_of out' in
            let e : word_of n w.top w.low ≡ 1 * 2 ^ (w.top - w.low) + 0 =
            word_split n w.top w.low p.first (p.sign f) ∙ ap₂ (λ (a b : ℕ). a * 2 ^ (w.top - w.low) + b) s z in
            sign_written j l f (e ∙ omega arith);
        unused = gap_written;
        printed = λ i t. let p = reserved_free (kind_of r) i t in gap_written i p.0.0 p.0.1 p.1;
      }

-- ---- the reader goes by the shape, the check's tests and the string as the check leaves it
reads_by : (s t : List ℕ) (k : Kind) (q : Result (ℕ × Record) Refusal) → misshapen s ≡ misshapen t → sound_tests (number_of s) ≡ sound_tests (number_of t)
    → mended (number_of s) ≡ mended (number_of t) → Reads s k q → Reads t k q
unfolding Reads
reads_by s t k q e f g a = rw (← e, ← f, ← g) a

-- ONE FLIP READS ALIKE: an encoded string with one bit flipped, but bit 8, is read as the string itself, whatever kind is asked
pub flip_reads_alike : (n i : ℕ) → n < 2 ^ 85 → Encoded n → 1 ≤ i → i ≤ 85 → (i ≡ 8 → ⊥) → (k : Kind) (q p : Result (ℕ × Record) Refusal)
    → Reads (bytes_of_string (flip n i)) k q → Reads (bytes_of_string n) k p → q ≡ p
flip_reads_alike n i h v l u ne k q p a b =
    let m = flip n i in
    let g = flip_lt 85 n i h l u in
    let r = one_flip_ruling n i v l u ne in
    let c = encoded_ruling n v in
    let e : mended m ≡ mended n = mended_by_lem m (Repaired i) r ∙ flip_undo 85 n i h l u ∙ sym (mended_by_lem n Clean c) in
    let d : sound_tests m ≡ sound_tests n = sound_same m n (ap is_damaged r) (ap is_damaged c) e in
    read_once (bytes_of_string n) k q p
    (reads_by (bytes_of_string m) (bytes_of_string n) k q (string_shaped m g ∙ sym (string_shaped n h))
    (ap sound_tests (string_number_lem m g) ∙ d ∙ sym (ap sound_tests (string_number_lem n h)))
    (ap mended (string_number_lem m g) ∙ e ∙ sym (ap mended (string_number_lem n h))) a) b

-- ---- READ, THEN WRITTEN: the string as the check leaves it, "but that reserved bits and minus zeros become plain zeros and the check bits
-- follow" (Tidied.antt; what `tidied` is, bit for bit, is `tidied_is` below)
pub read_then_written : (s : List ℕ) (k : Kind) (m : ℕ) (r : Record) (out : List ℕ) (w : Result ⊤ Refusal) (out' : List ℕ)
    → Reads s k (Ok (m, r)) → Writes m r out w out' → length out ≡ 11 → (w ≡ Ok tt) × (out' ≡ bytes_of_string (tidied k (mended (number_of s))))
unfolding string_of tidied
read_then_written s k m r out w out' a b h =
    let i = is_read s k m r a in
    let n = mended (number_of s) in
    let x : m * 2 ^ 80 + data_of (layout (kind_of r)) (list_of r) ≡ number_in n * 2 ^ 80 + tidy_words n (layout k) =
    ap₂ (λ (a b : ℕ). a * 2 ^ 80 + b) i.number (ap₂ (λ (k : Kind) (zs : List ℤ). data_of (layout k) zs) i.kind i.words ∙ data_values n (layout k) 80 (layout_laid k)) in
    let e = write_once m r out w (Ok tt) out' _ b
    (writes m r out (bytes_of_string (string_of m r))
    (record {
      room = h;
      place = ap₂ of_kind i.kind i.number ∙ i.place;
      range = ap₂ (λ (k : Kind) (zs : List ℤ). first_bad (layout k) zs) i.kind i.words ∙ i.range;
      output = refl;
    })) in
    (e.0, e.1 ∙ ap (λ (y : ℕ). bytes_of_string (encode y)) x)

-- what was read, written again and read again is the same
pub read_again : (s : List ℕ) (k : Kind) (m : ℕ) (r : Record) (out : List ℕ) (w : Result ⊤ Refusal) (out' : List ℕ) (q : Result (ℕ × Record) Refusal)
    → Reads s k (Ok (m, r)) → Writes m r out w out' → length out ≡ 11 → Reads out' k q → q ≡ Ok (m, r)
read_again s k m r out w out' q a b h c =
    let e = read_then_written s k m r out w out' a b h in
    written_then_read m r out out' (subst (λ (w : Result ⊤ Refusal). Writes m r out w out') e.0 b) q (subst (λ (k : Kind). Reads out' k q) (sym (is_read s k m r a).kind) c)

-- ---- WHAT IS TIDIED, bit for bit
number_lt : (n : ℕ) → number_in n ≤ 15
unfolding word_of
number_lt n = omega (arith, mod-lt (n / 2 ^ 80) (lit< {m = 0} {n = 2 ^ 4} tt))

pub tidied_is : (k : Kind) (n : ℕ) → Tidy k n (tidied k n)
unfolding tidied
tidied_is k n =
    let ws = layout k in
    let m = number_in n in
    let h = number_lt n in
    let d = data_of ws (values_of n ws) in
    let f = read_fit n ws 80 (layout_laid k) in
    let l = data_lt ws (values_of n ws) 80 (layout_laid k) f in
    let x = m * 2 ^ 80 + d in
    rw (← data_values n ws 80 (layout_laid k))
    (record {
      small = made_lt m d h l;
      encoded = encode_encoded x;
      idle = made_idle m d h l;
      number = made_number m d h l;
      words = λ j b. let c : j < length ws = omega (arith, layout_long k) in
          let w = word_at k j in
          word_same (encode x) x w.top w.low (encode_stays x) (sound_at 80 ws (layout_laid k) j).above
          ∙ word_data ws (values_of n ws) m 80 (layout_laid k) (values_long n ws) f j c ∙ code_read n ws 80 (layout_laid k) j c;
      reserved = λ i b c g. bit_same (encode x) x i (encode_stays x) b ∙ gap_data ws (values_of n ws) m 80 (layout_laid k) f i (omega arith) c g;
    })

-- ---- and nothing else is: what `Tidy` says leaves no bit open
record InWord (ws : List Word) (i : ℕ) : Type 0 where
  index : ℕ
  there : index < length ws
  from : (get_or ws index none).low ≤ i
  upto : i ≤ (get_or ws index none).top

in_word_by : (w : Word) (ws : List Word) (i : ℕ) (b : Bool) → (leb w.low i && leb i w.top) ≡ b → (in_words ws i ≡ true → InWord ws i)
    → (b || in_words ws i) ≡ true → InWord (w ∷ ws) i
in_word_by w ws i true q ih e =
    let p = both (leb w.low i) (leb i w.top) q in
    record { index = 0; there = zero-lt-suc (length ws); from = leb-true w.low i p.0; upto = leb-true i w.top p.1 }
in_word_by w ws i false q ih e = let o = ih e in record { index = suc o.index; there = suc-le-suc o.there; from = o.from; upto = o.upto }

in_word : (ws : List Word) (i : ℕ) → in_words ws i ≡ true → InWord ws i
in_word [] i e = absurd (true≢false (sym e))
in_word (w ∷ ws) i e = in_word_by w ws i (leb w.low i && leb i w.top) refl (in_word ws i) e

module _ (k : Kind) (n t u : ℕ) (a : Tidy k n t) (b : Tidy k n u) where
  data_bit : (i : ℕ) → 9 ≤ i → i ≤ 80 → (c : Bool) → in_words (layout k) i ≡ c → bit_of t i ≡ bit_of u i
  data_bit i l h true e =
      let o = in_word (layout k) i e in
      let j = o.index in
      let w = word_at k j in
      let first : 1 ≤ w.low = omega (arith, (sound_at 80 (layout k) (layout_laid k) j).above) in
      let there : j < 8 = omega (arith, layout_long k, o.there) in
      bit_in_word t i w.top w.low first o.from o.upto ∙ ap (λ (x : ℕ). x / 2 ^ (i - w.low) % 2) (a.words j there ∙ sym (b.words j there))
      ∙ sym (bit_in_word u i w.top w.low first o.from o.upto)
  data_bit i l h false e = a.reserved i l h e ∙ sym (b.reserved i l h e)

  high_bit : (i : ℕ) → 81 ≤ i → i ≤ 84 → bit_of t i ≡ bit_of u i
  high_bit i l h =
      bit_in_word t i 84 81 (lit≤ tt) l h ∙ ap (λ (x : ℕ). x / 2 ^ (i - 81) % 2) (a.number ∙ sym b.number) ∙ sym (bit_in_word u i 84 81 (lit≤ tt) l h)

  each_bit : (i : ℕ) → 9 ≤ i → i ≤ 85 → bit_of t i ≡ bit_of u i
  each_bit i l h =
      ⊎_elim (λ (m : i < 81). data_bit i l (omega arith) (in_words (layout k) i) refl)
      (⊎_elim (λ (e : i ≡ 81). high_bit i (omega arith) (omega arith))
      (λ (m : 81 < i). ⊎_elim (λ (m' : i < 85). high_bit i (omega arith) (omega arith))
      (⊎_elim (λ (e : i ≡ 85). ap (bit_of t) e ∙ a.idle ∙ sym (ap (bit_of u) e ∙ b.idle)) (λ (m' : 85 < i). absurd (omega arith))) (three i 85)))
      (three i 81)

  shifted_bit : (x i : ℕ) → 1 ≤ i → bit_of (x / 2 ^ 8) i ≡ bit_of x (i + 8)
  shifted_bit x i l = ap (λ (y : ℕ). y % 2) (shr-shr x 8 (i - 1)) ∙ ap (λ (j : ℕ). x / 2 ^ j % 2) (omega arith)

  high_same : u / 2 ^ 8 ≡ t / 2 ^ 8
  high_same =
      bits_same 77 (u / 2 ^ 8) (t / 2 ^ 8) (omega (arith, b.small)) (omega (arith, a.small))
      (λ i l h. shifted_bit u i l ∙ sym (each_bit (i + 8) (omega arith) (omega arith)) ∙ sym (shifted_bit t i l))

  pub tidy_once : t ≡ u
  tidy_once = encoded_once t t a.small a.small a.encoded refl ∙ sym (encoded_once t u a.small b.small b.encoded high_same)

pub tidied_only : (k : Kind) (n t : ℕ) → Tidy k n t → t ≡ tidied k n
tidied_only k n t a = tidy_once k n t (tidied k n) a (tidied_is k n)

-- so an encoded string with its idle bit, its reserved bits and no minus zero as the encoder writes them comes back byte for byte
pub comes_back : (s : List ℕ) (k : Kind) (m : ℕ) (r : Record) (out : List ℕ) (w : Result ⊤ Refusal) (out' : List ℕ) → Bytes s → Tidy k (number_of s) (number_of s)
    → Reads s k (Ok (m, r)) → Writes m r out w out' → length out ≡ 11 → (w ≡ Ok tt) × (out' ≡ s)
comes_back s k m r out w out' b t a c h =
    let n = number_of s in
    let e = read_then_written s k m r out w out' a c h in
    let p = shaped s (is_read s k m r a).shape in (
      e.0,
      e.1
          ∙ ap (λ (x : ℕ). bytes_of_string (tidied k x)) (mended_by_lem n Clean (encoded_ruling n t.encoded))
          ∙ ap bytes_of_string (sym (tidied_only k n n t)) ∙ bytes_of_string_lem s b p.0 p.1,
    )
