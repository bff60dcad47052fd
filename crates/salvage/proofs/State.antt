-- What holds at the head of the loop of `salvage` (State): what is written, and what the definition still gives from here, are together what is to be written.
-- Its start (begin), a field kept (keep) and a stretch skipped (skip), and its three ends (no-stretch, no_room, all_told).
-- Assumes nothing.
use Prim.Native.Nat.{ℕ, ◌+◌, ◌-◌, ◌*◌, ◌≤◌, ◌<◌, zero-le}
use native.Mathlib.Nat.{add-zero, zero-add}
use native.Mathlib.Omega.{arith}
use mathlib.Core.Path.{◌≡◌, refl, sym, ap, ◌∙◌}
use mathlib.Core.List.{List, [], ◌∷◌, ◌++◌, append_assoc, append-nil}
use lib.ListN.{length, take, drop, length-drop, take-append-drop}
use lib.Seq.{drop-drop, length-take-le}
use borrow.Author.Tests.{le-leb, lt-leb}
use Rattle.fields.specs.Fields.{size_at}
use Rattle.salvage.specs.declared.Full.{Full}
use Rattle.std.specs.Prelude.{Result, Ok, Err, ⊤}
use Rattle.salvage.specs.declared.Full.TheVariants.{Output as OutputFull, List as ListFull}
use Rattle.salvage.specs.Items.{Item, Kept, Skipped, next_place, items_of}
use Rattle.salvage.specs.Writing.{fitting, end_of, kept_bytes, stretches, skips, slots_of, laid, answer_of, Salvages}
use Rattle.salvage.proofs.Items.{rest, rest_all, rest_end, rest_bad, rest_good, field_in}
use Rattle.salvage.proofs.Lists.{take_laid, drop_laid, length_laid}

-- what is still to be written from a place, with w bytes and k stretches written
abbrev pub left : (s out list : List ℕ) (at w k : ℕ) → List Item
left s out list at w k = fitting (length out - w) (slots_of list - k) (rest s at)

pub record State (s out₀ list₀ out list : List ℕ) (at w k : ℕ) : Type 0 where
  pub w_in : w ≤ length out₀
  pub k_in : k ≤ slots_of list₀
  pub out_len : length out ≡ length out₀
  pub list_len : length list ≡ length list₀
  pub ended : end_of (length out₀) (slots_of list₀) (items_of s) ≡ end_of (length out₀ - w) (slots_of list₀ - k) (rest s at)
  pub bytes : kept_bytes s (fitting (length out₀) (slots_of list₀) (items_of s)) ≡ take w out ++ kept_bytes s (left s out₀ list₀ at w k)
  pub out_rest : drop w out ≡ drop w out₀
  pub told : stretches (fitting (length out₀) (slots_of list₀) (items_of s)) ≡ take (2 * k) list ++ stretches (left s out₀ list₀ at w k)
  pub list_rest : drop (2 * k) list ≡ drop (2 * k) list₀
  pub count : skips (fitting (length out₀) (slots_of list₀) (items_of s)) ≡ k + skips (left s out₀ list₀ at w k)

pub begin : (s out list : List ℕ) → State s out list out list 0 0 0
begin s out list =
    let a : length out - 0 ≡ length out = omega arith in
    let b : slots_of list - 0 ≡ slots_of list = omega arith in
    let d = rest_all s in
    record {
      w_in = zero-le;
      k_in = zero-le;
      out_len = refl;
      list_len = refl;
      ended = rw (a, b, d) refl;
      bytes = rw (a, b, d) refl;
      out_rest = refl;
      told = rw (a, b, d) refl;
      list_rest = refl;
      count = rw (a, b, d) (sym (zero-add (skips (fitting (length out) (slots_of list) (items_of s)))));
    }

module _ {s out₀ list₀ out list : List ℕ} {at w k : ℕ} (st : State s out₀ list₀ out list at w k) where
  -- the field at `at`, of n bytes, is copied
  module _ (n : ℕ) (out' : List ℕ) (h : at < length s) (e : n ≡ size_at s at) (z : n ≡ 0 → ⊥) (f : n ≤ length out - w)
      (o : out' ≡ take w out ++ (take n (drop at s) ++ drop (w + n) out)) where
    keep-fits : n ≤ length out₀ - w
    keep-fits = omega (arith, f, st.out_len)

    keep_left : left s out₀ list₀ at w k ≡ Kept at n ∷ left s out₀ list₀ (at + n) (w + n) k
    keep_left =
        let d : length out₀ - w - n ≡ length out₀ - (w + n) = omega arith in
        rw (rest_good s at n h e z) (rw (le-leb n (length out₀ - w) keep-fits) (rw d refl))

    keep-ended : end_of (length out₀ - w) (slots_of list₀ - k) (rest s at) ≡ end_of (length out₀ - (w + n)) (slots_of list₀ - k) (rest s (at + n))
    keep-ended =
        let d : length out₀ - w - n ≡ length out₀ - (w + n) = omega arith in
        rw (rest_good s at n h e z) (rw (le-leb n (length out₀ - w) keep-fits) (rw d refl))

    keep-in : at + n ≤ length s
    keep-in = field_in s at n e z

    keep-long : length (take n (drop at s)) ≡ n
    keep-long = length-take-le n (drop at s) (rw length-drop (omega (arith, keep-in)))

    keep-take : take (w + n) out' ≡ take w out ++ take n (drop at s)
    keep-take = ap (take (w + n)) o ∙ take_laid out (take n (drop at s)) w n (omega (arith, st.w_in, st.out_len)) keep-long

    keep-drop : drop (w + n) out' ≡ drop (w + n) out
    keep-drop = ap (drop (w + n)) o ∙ drop_laid out (take n (drop at s)) w n (omega (arith, st.w_in, st.out_len)) keep-long

    pub keep : State s out₀ list₀ out' list (at + n) (w + n) k
    keep =
        record {
          w_in = omega (arith, keep-fits, st.w_in);
          k_in = st.k_in;
          out_len = ap length o ∙ length_laid out (take n (drop at s)) w n (omega (arith, st.w_in, st.out_len)) keep-long (omega (arith, f, st.w_in, st.out_len)) ∙ st.out_len;
          list_len = st.list_len;
          ended = st.ended ∙ keep-ended;
          bytes = st.bytes ∙ ap (λ (x : List Item). take w out ++ kept_bytes s x) keep_left
              ∙ sym (append_assoc (take w out) (take n (drop at s)) (kept_bytes s (left s out₀ list₀ (at + n) (w + n) k)))
              ∙ ap (λ (x : List ℕ). x ++ kept_bytes s (left s out₀ list₀ (at + n) (w + n) k)) (sym keep-take);
          out_rest = keep-drop ∙ sym (drop-drop n w out) ∙ ap (drop n) st.out_rest ∙ drop-drop n w out₀;
          told = st.told ∙ ap (λ (x : List Item). take (2 * k) list ++ stretches x) keep_left;
          list_rest = st.list_rest;
          count = st.count ∙ ap (λ (x : List Item). k + skips x) keep_left;
        }

  -- the stretch from `at` to q is listed
  module _ (q : ℕ) (list' : List ℕ) (h : at < length s) (z : size_at s at ≡ 0) (e : q ≡ next_place s at) (f : k < slots_of list)
      (o : list' ≡ take (2 * k) list ++ (at ∷ ((q - at) ∷ drop (2 * k + 2) list))) where
    skip-fits : 1 ≤ slots_of list₀ - k
    skip-fits = omega (arith, f, st.list_len)

    skip-left : left s out₀ list₀ at w k ≡ Skipped at (q - at) ∷ left s out₀ list₀ q w (k + 1)
    skip-left =
        let d : slots_of list₀ - k - 1 ≡ slots_of list₀ - (k + 1) = omega arith in
        rw (rest_bad s at h z, ← e) (rw (le-leb 1 (slots_of list₀ - k) skip-fits) (rw d refl))

    skip-ended : end_of (length out₀ - w) (slots_of list₀ - k) (rest s at) ≡ end_of (length out₀ - w) (slots_of list₀ - (k + 1)) (rest s q)
    skip-ended =
        let d : slots_of list₀ - k - 1 ≡ slots_of list₀ - (k + 1) = omega arith in
        rw (rest_bad s at h z, ← e) (rw (le-leb 1 (slots_of list₀ - k) skip-fits) (rw d refl))

    skip-two : 2 * (k + 1) ≡ 2 * k + 2
    skip-two = omega arith

    skip-long : 2 * k ≤ length list
    skip-long = omega (arith, f)

    skip-take : take (2 * (k + 1)) list' ≡ take (2 * k) list ++ (at ∷ ((q - at) ∷ []))
    skip-take = rw skip-two (ap (take (2 * k + 2)) o ∙ take_laid list (at ∷ ((q - at) ∷ [])) (2 * k) 2 skip-long refl)

    skip-drop : drop (2 * (k + 1)) list' ≡ drop (2 * k + 2) list
    skip-drop = rw skip-two (ap (drop (2 * k + 2)) o ∙ drop_laid list (at ∷ ((q - at) ∷ [])) (2 * k) 2 skip-long refl)

    pub skip : State s out₀ list₀ out list' q w (k + 1)
    skip =
        record {
          w_in = st.w_in;
          k_in = omega (arith, f, st.list_len);
          out_len = st.out_len;
          list_len = ap length o ∙ length_laid list (at ∷ ((q - at) ∷ [])) (2 * k) 2 skip-long refl (omega (arith, f)) ∙ st.list_len;
          ended = st.ended ∙ skip-ended;
          bytes = st.bytes ∙ ap (λ (x : List Item). take w out ++ kept_bytes s x) skip-left;
          out_rest = st.out_rest;
          told = st.told ∙ ap (λ (x : List Item). take (2 * k) list ++ stretches x) skip-left
              ∙ sym (append_assoc (take (2 * k) list) (at ∷ ((q - at) ∷ [])) (stretches (left s out₀ list₀ q w (k + 1))))
              ∙ ap (λ (x : List ℕ). x ++ stretches (left s out₀ list₀ q w (k + 1))) (sym skip-take);
          list_rest = skip-drop ∙ sym (drop-drop 2 (2 * k) list) ∙ ap (drop 2) st.list_rest ∙ drop-drop 2 (2 * k) list₀ ∙ ap (λ (x : ℕ). drop x list₀) (sym skip-two);
          count = st.count ∙ ap (λ (x : List Item). k + skips x) skip-left ∙ omega arith;
        }

  -- nothing more is written: what the function must show
  module _ (t : Result ⊤ Full) (g : left s out₀ list₀ at w k ≡ []) (d : end_of (length out₀ - w) (slots_of list₀ - k) (rest s at) ≡ t) where
    stop-bytes : kept_bytes s (fitting (length out₀) (slots_of list₀) (items_of s)) ≡ take w out
    stop-bytes = st.bytes ∙ ap (λ (x : List Item). take w out ++ kept_bytes s x) g ∙ append-nil (take w out)

    stop-told : stretches (fitting (length out₀) (slots_of list₀) (items_of s)) ≡ take (2 * k) list
    stop-told = st.told ∙ ap (λ (x : List Item). take (2 * k) list ++ stretches x) g ∙ append-nil (take (2 * k) list)

    stop-count : skips (fitting (length out₀) (slots_of list₀) (items_of s)) ≡ k
    stop-count = st.count ∙ ap (λ (x : List Item). k + skips x) g ∙ add-zero k

    stop-w : length (take w out) ≡ w
    stop-w = length-take-le w out (omega (arith, st.w_in, st.out_len))

    stop-k : length (take (2 * k) list) ≡ 2 * k
    stop-k = length-take-le (2 * k) list (omega (arith, st.k_in, st.list_len))

    stop-answer : record { written = w; stretches = k; ended = t } ≡ answer_of s (items_of s) (length out₀) (slots_of list₀)
    stop-answer = simp (stop-bytes, stop-w, stop-count, st.ended, d)

    stop-out : out ≡ laid (kept_bytes s (fitting (length out₀) (slots_of list₀) (items_of s))) out₀
    stop-out = rw (stop-bytes, stop-w, ← st.out_rest) (sym (take-append-drop w out))

    stop-list : list ≡ laid (stretches (fitting (length out₀) (slots_of list₀) (items_of s))) list₀
    stop-list = rw (stop-told, stop-k, ← st.list_rest) (sym (take-append-drop (2 * k) list))

    pub stop : Salvages s out₀ list₀ (record { written = w; stretches = k; ended = t }) out list
    stop = record { answer = stop-answer; output = stop-out; listed = stop-list }

  -- the three ends
  abbrev pub Stopped : Result ⊤ Full → Type 0
  Stopped t = Salvages s out₀ list₀ (record { written = w; stretches = k; ended = t }) out list

  pub no_stretch : at < length s → size_at s at ≡ 0 → slots_of list ≤ k → Stopped (Err (ListFull at))
  no_stretch h z f =
      let l = lt-leb 1 (slots_of list₀ - k) (omega (arith, f, st.list_len)) in
      stop (Err (ListFull at)) (rw (rest_bad s at h z) (rw l refl)) (rw (rest_bad s at h z) (rw l refl))

  pub no_room_lem : (n : ℕ) → at < length s → n ≡ size_at s at → (n ≡ 0 → ⊥) → length out - w < n → Stopped (Err (OutputFull at))
  no_room_lem n h e z f =
      let l = lt-leb n (length out₀ - w) (omega (arith, f, st.out_len)) in
      stop (Err (OutputFull at)) (rw (rest_good s at n h e z) (rw l refl)) (rw (rest_good s at n h e z) (rw l refl))

  pub all_told : length s ≤ at → Stopped (Ok tt)
  all_told h = stop (Ok tt) (rw (rest_end s at h) refl) (rw (rest_end s at h) refl)
