-- The text of a moment is read as it, and nothing else is.
use Rattle.std.proofs.Common.{◌≡◌, ℕ, ◌+◌, ◌-◌, ◌*◌, ◌/◌, ◌%◌, ◌<◌, ◌≤◌, ◌⊎◌, inl, inr, Bool, true, false, ◌&&◌, cond, eqb, List, [], ◌∷◌, ◌++◌, length, get_or, take, drop, nat_le, Option, Some, None, refl, sym, ap, ◌∙◌, append_assoc, append-nil, length-append, lit≤, arith}
use Rattle.std.proofs.lemmas.Bool.Decides.{nat_tests}
use Rattle.std.proofs.lemmas.Bool.{and_parts, le-leb, leb-true, eqb-true}
use Rattle.std.proofs.lemmas.Option.{cond_some}
use Rattle.std.proofs.Math.Seq.{get_or-append_seam}
use Rattle.std.proofs.lemmas.List.{take_at, drop_at, take-append-drop, length-take-le, drop-drop, drop_more, length-drop}
use Rattle.std.specs.Char.{is_ascii_digit, digit_value}
use Rattle.fix_fields.specs.Calendar.{Date, IsDate, day_number, day_of_date, is_date, days_in_month}
use Rattle.fix_fields.specs.Number.{number_of}
use Rattle.fix_fields.specs.Options.{◌>>=◌}
use Rattle.fix_fields.specs.Stamp.{last_digits, date_text, time_text, fraction_text, stamp_of, day_in, second_of_day, second_in, fraction_in, moment_of, IsStamp, date_of_day}
use Rattle.fix_fields.proofs.Numbers.{IsNumber, IsNumber-from, number_of-from}
use Rattle.fix_fields.proofs.CountOff.{day_number-date_of_day}
use Rattle.fix_fields.proofs.Days.{is_date_true, is_date_from}

-- a digit and its code
digit_code : (d : ℕ) → d < 10 → (is_ascii_digit (48 + d) ≡ true) × (digit_value (48 + d) ≡ d)
digit_code d small = grind (arith, nat_tests)

code_digit : (byte : ℕ) → is_ascii_digit byte ≡ true → (48 ≤ byte) × (byte ≤ 57) × (digit_value byte ≡ byte - 48)
code_digit byte digit = grind (arith, nat_tests)

-- numbers of two, three and four digits
two_digits : (n : ℕ) → n < 100 → IsNumber (last_digits 2 n) n
two_digits n small =
    let a : n / 10 % 10 < 10 = omega arith in
    let b : n / 1 % 10 < 10 = omega arith in
    record {
      filled = lit≤ tt;
      short = lit≤ tt;
      digits = rw ((digit_code _ a).0, (digit_code _ b).0) refl;
      value = omega (arith, (digit_code _ a).1, (digit_code _ b).1);
      bound = omega arith;
    }

three_digits : (n : ℕ) → n < 1_000 → IsNumber (last_digits 3 n) n
three_digits n small =
    let a : n / 100 % 10 < 10 = omega arith in
    let b : n / 10 % 10 < 10 = omega arith in
    let c : n / 1 % 10 < 10 = omega arith in
    record {
      filled = lit≤ tt;
      short = lit≤ tt;
      digits = rw ((digit_code _ a).0, (digit_code _ b).0, (digit_code _ c).0) refl;
      value = omega (arith, (digit_code _ a).1, (digit_code _ b).1, (digit_code _ c).1);
      bound = omega arith;
    }

four_digits : (n : ℕ) → n < 10_000 → IsNumber (last_digits 4 n) n
four_digits n small =
    let a : n / 1_000 % 10 < 10 = omega arith in
    let b : n / 100 % 10 < 10 = omega arith in
    let c : n / 10 % 10 < 10 = omega arith in
    let d : n / 1 % 10 < 10 = omega arith in
    record {
      filled = lit≤ tt;
      short = lit≤ tt;
      digits = rw ((digit_code _ a).0, (digit_code _ b).0, (digit_code _ c).0, (digit_code _ d).0) refl;
      value = omega (arith, (digit_code _ a).1, (digit_code _ b).1, (digit_code _ c).1, (digit_code _ d).1);
      bound = omega arith;
    }

-- and the only texts of such numbers
only_two : (bytes : List ℕ) (n : ℕ) → length bytes ≡ 2 → IsNumber bytes n → (bytes ≡ last_digits 2 n) × (n < 100)
only_two [] n two is = absurd (omega arith)
only_two (a ∷ []) n two is = absurd (omega arith)
only_two (a ∷ b ∷ c ∷ more) n two is = absurd (omega arith)
only_two (a ∷ b ∷ []) n two is =
    let first = and_parts (is_ascii_digit a) (is_ascii_digit b && true) is.digits in
    let second = and_parts (is_ascii_digit b) true first.1 in
    let x = code_digit a first.0 in
    let y = code_digit b second.0 in
    let value : (a - 48) * 10 + (b - 48) ≡ n = omega (arith, is.value, x.2, y.2) in
    let tens : a ≡ 48 + n / 10 % 10 = omega (arith, value, x.0, x.1, y.0, y.1) in
    let ones : b ≡ 48 + n / 1 % 10 = omega (arith, value, x.0, x.1, y.0, y.1) in
    (rw (tens, ones) refl, omega (arith, value, x.1, y.1))

only_three : (bytes : List ℕ) (n : ℕ) → length bytes ≡ 3 → IsNumber bytes n → (bytes ≡ last_digits 3 n) × (n < 1_000)
only_three [] n three is = absurd (omega arith)
only_three (a ∷ []) n three is = absurd (omega arith)
only_three (a ∷ b ∷ []) n three is = absurd (omega arith)
only_three (a ∷ b ∷ c ∷ d ∷ more) n three is = absurd (omega arith)
only_three (a ∷ b ∷ c ∷ []) n three is =
    let first = and_parts (is_ascii_digit a) (is_ascii_digit b && (is_ascii_digit c && true)) is.digits in
    let second = and_parts (is_ascii_digit b) (is_ascii_digit c && true) first.1 in
    let third = and_parts (is_ascii_digit c) true second.1 in
    let x = code_digit a first.0 in
    let y = code_digit b second.0 in
    let z = code_digit c third.0 in
    let value : ((a - 48) * 10 + (b - 48)) * 10 + (c - 48) ≡ n = omega (arith, is.value, x.2, y.2, z.2) in
    let hundreds : a ≡ 48 + n / 100 % 10 = omega (arith, value, x.0, x.1, y.0, y.1, z.0, z.1) in
    let tens : b ≡ 48 + n / 10 % 10 = omega (arith, value, x.0, x.1, y.0, y.1, z.0, z.1) in
    let ones : c ≡ 48 + n / 1 % 10 = omega (arith, value, x.0, x.1, y.0, y.1, z.0, z.1) in
    (rw (hundreds, tens, ones) refl, omega (arith, value, x.1, y.1, z.1))

only_four : (bytes : List ℕ) (n : ℕ) → length bytes ≡ 4 → IsNumber bytes n → (bytes ≡ last_digits 4 n) × (n < 10_000)
only_four [] n four is = absurd (omega arith)
only_four (a ∷ []) n four is = absurd (omega arith)
only_four (a ∷ b ∷ []) n four is = absurd (omega arith)
only_four (a ∷ b ∷ c ∷ []) n four is = absurd (omega arith)
only_four (a ∷ b ∷ c ∷ d ∷ e ∷ more) n four is = absurd (omega arith)
only_four (a ∷ b ∷ c ∷ d ∷ []) n four is =
    let first = and_parts (is_ascii_digit a) (is_ascii_digit b && (is_ascii_digit c && (is_ascii_digit d && true))) is.digits in
    let second = and_parts (is_ascii_digit b) (is_ascii_digit c && (is_ascii_digit d && true)) first.1 in
    let third = and_parts (is_ascii_digit c) (is_ascii_digit d && true) second.1 in
    let fourth = and_parts (is_ascii_digit d) true third.1 in
    let w = code_digit a first.0 in
    let x = code_digit b second.0 in
    let y = code_digit c third.0 in
    let z = code_digit d fourth.0 in
    let value : (((a - 48) * 10 + (b - 48)) * 10 + (c - 48)) * 10 + (d - 48) ≡ n = omega (arith, is.value, w.2, x.2, y.2, z.2) in
    let thousands : a ≡ 48 + n / 1_000 % 10 = omega (arith, value, w.0, w.1, x.0, x.1, y.0, y.1, z.0, z.1) in
    let hundreds : b ≡ 48 + n / 100 % 10 = omega (arith, value, w.0, w.1, x.0, x.1, y.0, y.1, z.0, z.1) in
    let tens : c ≡ 48 + n / 10 % 10 = omega (arith, value, w.0, w.1, x.0, x.1, y.0, y.1, z.0, z.1) in
    let ones : d ≡ 48 + n / 1 % 10 = omega (arith, value, w.0, w.1, x.0, x.1, y.0, y.1, z.0, z.1) in
    (rw (thousands, hundreds, tens, ones) refl, omega (arith, value, w.1, x.1, y.1, z.1))

days_in_month_small : (year month : ℕ) → days_in_month year month ≤ 31
days_in_month_small year month = grind (arith, nat_tests)

second_of_day-parts : (second : ℕ) → second < 86_400 → second_of_day (second / 3_600) (second / 60 % 60) (second % 60) ≡ Some second
second_of_day-parts second within =
    let hour : nat_le (second / 3_600) 23 ≡ true = le-leb _ _ (omega arith) in
    let minute : nat_le (second / 60 % 60) 59 ≡ true = le-leb _ _ (omega arith) in
    let rest : nat_le (second % 60) 59 ≡ true = le-leb _ _ (omega arith) in
    let whole : second / 3_600 * 3_600 + second / 60 % 60 * 60 + second % 60 ≡ second = omega arith in
    rw (hour, minute, rest) (ap Some whole)

-- the parts of a date's text
day_in-parts : (year month day : List ℕ) → length year ≡ 4 → length month ≡ 2 → day_in (year ++ month ++ day) ≡ (number_of year >>= λ y. number_of month >>= λ m. number_of day >>= λ d. day_of_date (record { year = y; month = m; day = d }))
unfolding day_in
day_in-parts year month day four two =
    let front : take 4 (year ++ month ++ day) ≡ year = ap (take 4) (append_assoc year month day) ∙ take_at year (month ++ day) 4 four in
    let behind : drop 4 (year ++ month ++ day) ≡ month ++ day = ap (drop 4) (append_assoc year month day) ∙ drop_at year (month ++ day) 4 four in
    let middle : take 2 (drop 4 (year ++ month ++ day)) ≡ month = ap (take 2) behind ∙ take_at month day 2 two in
    let last : drop 6 (year ++ month ++ day) ≡ day = drop_at (year ++ month) day 6 (omega (arith, length-append year month)) in
    rw (front, middle, last) refl

-- the parts of a time's text
second_in-parts : (hour minute second : List ℕ) → length hour ≡ 2 → length minute ≡ 2 → second_in (hour ++ (58 ∷ minute) ++ (58 ∷ second)) ≡ (number_of hour >>= λ h. number_of minute >>= λ m. number_of second >>= λ s. second_of_day h m s)
unfolding second_in
second_in-parts [] minute second two also = absurd (omega arith)
second_in-parts (a ∷ []) minute second two also = absurd (omega arith)
second_in-parts (a ∷ b ∷ c ∷ more) minute second two also = absurd (omega arith)
second_in-parts (a ∷ b ∷ []) [] second two also = absurd (omega arith)
second_in-parts (a ∷ b ∷ []) (c ∷ []) second two also = absurd (omega arith)
second_in-parts (a ∷ b ∷ []) (c ∷ d ∷ e ∷ more) second two also = absurd (omega arith)
second_in-parts (a ∷ b ∷ []) (c ∷ d ∷ []) second two also = refl

-- the parts of a timestamp's text
moment_of-parts : (day second fraction : List ℕ) → length day ≡ 8 → length second ≡ 8 → moment_of (day ++ (45 ∷ second) ++ fraction) ≡ (day_in day >>= λ d. second_in second >>= λ s. fraction_in fraction >>= λ f. Some ((d * 86_400 + s) * 1_000 + f))
unfolding moment_of
moment_of-parts day second fraction eight also =
    let whole : day ++ (45 ∷ second) ++ fraction ≡ day ++ 45 ∷ (second ++ fraction) = append_assoc day (45 ∷ second) fraction in
    let long : nat_le 17 (length (day ++ (45 ∷ second) ++ fraction)) ≡ true =
    le-leb _ _ (omega (arith, length-append (day ++ (45 ∷ second)) fraction, length-append day (45 ∷ second)))
    in
    let dash : get_or (day ++ (45 ∷ second) ++ fraction) 8 0 ≡ 45 =
    ap (λ (xs : List ℕ). get_or xs 8 0) whole ∙ ap (λ (n : ℕ). get_or (day ++ 45 ∷ (second ++ fraction)) n 0) (sym eight)
    ∙ get_or-append_seam day 45 (second ++ fraction) 0
    in
    let front : take 8 (day ++ (45 ∷ second) ++ fraction) ≡ day = ap (take 8) whole ∙ take_at day (45 ∷ (second ++ fraction)) 8 eight in
    let nine : (day ++ 45 ∷ []) ++ (second ++ fraction) ≡ day ++ (45 ∷ second) ++ fraction = simp append_assoc in
    let behind : drop 9 (day ++ (45 ∷ second) ++ fraction) ≡ second ++ fraction =
    ap (drop 9) (sym nine) ∙ drop_at (day ++ 45 ∷ []) (second ++ fraction) 9 (omega (arith, length-append day (45 ∷ [])))
    in
    let middle : take 8 (drop 9 (day ++ (45 ∷ second) ++ fraction)) ≡ second = ap (take 8) behind ∙ take_at second fraction 8 also in
    let last : drop 17 (day ++ (45 ∷ second) ++ fraction) ≡ fraction = drop_at (day ++ (45 ∷ second)) fraction 17 (omega (arith, length-append day (45 ∷ second))) in
    rw (long, dash, front, middle, last) refl

day_of_date-real : (date : Date) → IsDate date → day_of_date date ≡ Some (day_number date)
day_of_date-real date real = rw (is_date_true date real) refl

day_in-date : (date : Date) → IsDate date → day_in (date_text date) ≡ Some (day_number date)
day_in-date date real =
    let month_days = days_in_month_small date.year date.month in
    let y = number_of-from _ _ (four_digits date.year (omega (arith, real.to_9999))) in
    let m = number_of-from _ _ (two_digits date.month (omega (arith, real.to_december))) in
    let d = number_of-from _ _ (two_digits date.day (omega (arith, real.to_last, month_days))) in
    day_in-parts (last_digits 4 date.year) (last_digits 2 date.month) (last_digits 2 date.day) refl refl
    ∙ rw (y, m, d) (day_of_date-real date real)

second_in-time : (second : ℕ) → second < 86_400 → second_in (time_text second) ≡ Some second
second_in-time second within =
    let h = number_of-from _ _ (two_digits (second / 3_600) (omega arith)) in
    let m = number_of-from _ _ (two_digits (second / 60 % 60) (omega arith)) in
    let s = number_of-from _ _ (two_digits (second % 60) (omega arith)) in
    second_in-parts (last_digits 2 (second / 3_600)) (last_digits 2 (second / 60 % 60)) (last_digits 2 (second % 60)) refl refl
    ∙ rw (h, m, s) (second_of_day-parts second within)

fraction_in-fraction : (millisecond : ℕ) → millisecond < 1_000 → fraction_in (fraction_text millisecond) ≡ Some millisecond
unfolding fraction_in
fraction_in-fraction millisecond small = number_of-from _ _ (three_digits millisecond small)

fraction_in-none : fraction_in [] ≡ Some 0
unfolding fraction_in
fraction_in-none = refl

-- what is a timestamp of a moment is read as it
pub moment_of-from : (text : List ℕ) (ms : ℕ) → IsStamp text ms → moment_of text ≡ Some ms
moment_of-from text ms is =
    let day = day_in-date is.date is.real in
    let second = second_in-time is.second is.of_day in
    elim is.spelled [
      | inl spelled ↦
          ap moment_of spelled
          ∙ moment_of-parts (date_text is.date) (time_text is.second) (fraction_text is.millisecond) refl refl
          ∙ rw (day, second, fraction_in-fraction is.millisecond is.of_second) (ap Some (sym is.moment))
      | inr bare ↦
          ap moment_of (bare.0 ∙ sym (append-nil (date_text is.date ++ 45 ∷ time_text is.second)))
          ∙ moment_of-parts (date_text is.date) (time_text is.second) [] refl refl
          ∙ rw (day, second, fraction_in-none) (ap Some (omega (arith, bare.1, is.moment)))
    ]

bind_some : {A B : Type 0} (o : Option A) (next : A → Option B) (y : B) → (o >>= next) ≡ Some y → (x : A) × (o ≡ Some x) × (next x ≡ Some y)
bind_some None next y e = absurd (cc e)
bind_some (Some x) next y e = (x, refl, e)

-- eight bytes that are a day are the text of a date with that number
record IsDay (text : List ℕ) (day : ℕ) : Type 0 where
  date : Date
  real : IsDate date
  spelled : text ≡ date_text date
  number : day_number date ≡ day

day_of_date-from : (date : Date) (day : ℕ) → day_of_date date ≡ Some day → IsDate date × (day_number date ≡ day)
day_of_date-from date day e =
    let got = cond_some (is_date date) _ _ e in
    (is_date_from date got.0, got.1)

-- a list and three parts of it, one behind the other
three_parts : (a b : ℕ) (text : List ℕ) → text ≡ take a text ++ take b (drop a text) ++ drop (a + b) text
three_parts a b text =
    sym (take-append-drop a text)
    ∙ ap (λ (xs : List ℕ). take a text ++ xs) (sym (take-append-drop b (drop a text)) ∙ ap (λ (xs : List ℕ). take b (drop a text) ++ xs) (drop-drop b a text))
    ∙ sym (append_assoc (take a text) (take b (drop a text)) (drop (a + b) text))

date_spelled : (text : List ℕ) (y m d : ℕ) → take 4 text ≡ last_digits 4 y → take 2 (drop 4 text) ≡ last_digits 2 m → drop 6 text ≡ last_digits 2 d → text ≡ date_text (record { year = y; month = m; day = d })
date_spelled text y m d year month day =
    three_parts 4 2 text
    ∙ ap (λ (xs : List ℕ). xs ++ take 2 (drop 4 text) ++ drop 6 text) year
    ∙ ap (λ (xs : List ℕ). last_digits 4 y ++ xs ++ drop 6 text) month
    ∙ ap (λ (xs : List ℕ). last_digits 4 y ++ last_digits 2 m ++ xs) day

day_in-from : (text : List ℕ) (day : ℕ) → length text ≡ 8 → day_in text ≡ Some day → IsDay text day
unfolding day_in
day_in-from text day eight e =
    let y = bind_some (number_of (take 4 text)) _ day e in
    let m = bind_some (number_of (take 2 (drop 4 text))) _ day y.2 in
    let d = bind_some (number_of (drop 6 text)) _ day m.2 in
    let dated = day_of_date-from (record { year = y.0; month = m.0; day = d.0 }) day d.2 in
    let behind : length (drop 4 text) ≡ 4 = omega (arith, length-drop 4 text) in
    let year = only_four (take 4 text) y.0 (length-take-le 4 text (omega arith)) (IsNumber-from _ _ y.1) in
    let month = only_two (take 2 (drop 4 text)) m.0 (length-take-le 2 (drop 4 text) (omega arith)) (IsNumber-from _ _ m.1) in
    let last = only_two (drop 6 text) d.0 (omega (arith, length-drop 6 text)) (IsNumber-from _ _ d.1) in
    record {
      date = record { year = y.0; month = m.0; day = d.0 };
      real = dated.0;
      spelled = date_spelled text y.0 m.0 d.0 year.0 month.0 last.0;
      number = dated.1;
    }

-- eight bytes that are a time of day are its text
record IsTime (text : List ℕ) (second : ℕ) : Type 0 where
  within : second < 86_400
  spelled : text ≡ time_text second

time_is : (h m s second : ℕ) → second_of_day h m s ≡ Some second → (second < 86_400) × (second / 3_600 ≡ h) × (second / 60 % 60 ≡ m) × (second % 60 ≡ s)
time_is h m s second e =
    let got = cond_some (nat_le h 23 && nat_le m 59 && nat_le s 59) _ _ e in
    let last = and_parts (nat_le h 23 && nat_le m 59) (nat_le s 59) got.0 in
    let first = and_parts (nat_le h 23) (nat_le m 59) last.0 in
    let hour = leb-true _ _ first.0 in
    let minute = leb-true _ _ first.1 in
    let rest = leb-true _ _ last.1 in
    let whole : h * 3_600 + m * 60 + s ≡ second = got.1 in
    (omega (arith, hour, minute, rest, whole), omega (arith, hour, minute, rest, whole), omega (arith, hour, minute, rest, whole), omega (arith, hour, minute, rest, whole))

colon_at : (text : List ℕ) (i : ℕ) → i < length text → eqb (get_or text i 0) 58 ≡ true → drop i text ≡ 58 ∷ drop (i + 1) text
colon_at text i inside e = drop_more text i 0 inside ∙ ap (λ (byte : ℕ). byte ∷ drop (i + 1) text) (eqb-true _ _ e)

cond_some_of : (b : Bool) (o : Option ℕ) (n : ℕ) → cond b o None ≡ Some n → (b ≡ true) × (o ≡ Some n)
cond_some_of true o n e = (refl, e)
cond_some_of false o n e = absurd (cc e)

-- a list whose third and sixth elements are colons
colons_between : (text : List ℕ) → drop 2 text ≡ 58 ∷ drop 3 text → drop 5 text ≡ 58 ∷ drop 6 text → text ≡ take 2 text ++ (58 ∷ take 2 (drop 3 text)) ++ (58 ∷ drop 6 text)
colons_between text first second =
    let middle : drop 3 text ≡ take 2 (drop 3 text) ++ 58 ∷ drop 6 text =
    sym (take-append-drop 2 (drop 3 text)) ∙ ap (λ (xs : List ℕ). take 2 (drop 3 text) ++ xs) (drop-drop 2 3 text ∙ second)
    in
    sym (take-append-drop 2 text)
    ∙ ap (λ (xs : List ℕ). take 2 text ++ xs) (first ∙ ap (λ (xs : List ℕ). 58 ∷ xs) middle)
    ∙ sym (append_assoc (take 2 text) (58 ∷ take 2 (drop 3 text)) (58 ∷ drop 6 text))

time_spelled : (text : List ℕ) (h m s second : ℕ) → text ≡ take 2 text ++ (58 ∷ take 2 (drop 3 text)) ++ (58 ∷ drop 6 text) → take 2 text ≡ last_digits 2 h → take 2 (drop 3 text) ≡ last_digits 2 m → drop 6 text ≡ last_digits 2 s → second / 3_600 ≡ h → second / 60 % 60 ≡ m → second % 60 ≡ s → text ≡ time_text second
time_spelled text h m s second whole hour minute last e f g =
    whole
    ∙ ap (λ (xs : List ℕ). xs ++ (58 ∷ take 2 (drop 3 text)) ++ (58 ∷ drop 6 text)) (hour ∙ ap (last_digits 2) (sym e))
    ∙ ap (λ (xs : List ℕ). last_digits 2 (second / 3_600) ++ (58 ∷ xs) ++ (58 ∷ drop 6 text)) (minute ∙ ap (last_digits 2) (sym f))
    ∙ ap (λ (xs : List ℕ). last_digits 2 (second / 3_600) ++ (58 ∷ last_digits 2 (second / 60 % 60)) ++ (58 ∷ xs)) (last ∙ ap (last_digits 2) (sym g))

second_in-from : (text : List ℕ) (second : ℕ) → length text ≡ 8 → second_in text ≡ Some second → IsTime text second
unfolding second_in
second_in-from text second eight e =
    let got = cond_some_of (eqb (get_or text 2 0) 58 && eqb (get_or text 5 0) 58) _ second e in
    let colons = and_parts (eqb (get_or text 2 0) 58) (eqb (get_or text 5 0) 58) got.0 in
    let h = bind_some (number_of (take 2 text)) _ second got.1 in
    let m = bind_some (number_of (take 2 (drop 3 text))) _ second h.2 in
    let s = bind_some (number_of (drop 6 text)) _ second m.2 in
    let time = time_is h.0 m.0 s.0 second s.2 in
    let hour = only_two (take 2 text) h.0 (length-take-le 2 text (omega arith)) (IsNumber-from _ _ h.1) in
    let minute = only_two (take 2 (drop 3 text)) m.0 (length-take-le 2 (drop 3 text) (omega (arith, length-drop 3 text))) (IsNumber-from _ _ m.1) in
    let last = only_two (drop 6 text) s.0 (omega (arith, length-drop 6 text)) (IsNumber-from _ _ s.1) in
    let first_colon = colon_at text 2 (omega arith) colons.0 in
    let second_colon = colon_at text 5 (omega arith) colons.1 in
    record {
      within = time.0;
      spelled = time_spelled text h.0 m.0 s.0 second (colons_between text first_colon second_colon) hour.0 minute.0 last.0 time.1 time.2 time.3;
    }

-- no bytes are no milliseconds, and else they are a fraction of three digits
fraction_in-from : (text : List ℕ) (millisecond : ℕ) → fraction_in text ≡ Some millisecond → (millisecond < 1_000) × ((text ≡ fraction_text millisecond) ⊎ ((text ≡ []) × (millisecond ≡ 0)))
unfolding fraction_in
fraction_in-from [] millisecond e =
    let none : 0 ≡ millisecond = cc e in
    (omega (arith, none), inr (refl, sym none))
fraction_in-from (byte ∷ digits) millisecond e =
    let got = cond_some_of (eqb byte 46 && eqb (length digits) 3) (number_of digits) millisecond e in
    let tests = and_parts (eqb byte 46) (eqb (length digits) 3) got.0 in
    let three = only_three digits millisecond (eqb-true _ _ tests.1) (IsNumber-from _ _ got.1) in
    (three.1, inl (ap (λ (b : ℕ). b ∷ digits) (eqb-true _ _ tests.0) ∙ ap (λ (xs : List ℕ). 46 ∷ xs) three.0))

-- a timestamp's text, cut at its dash and behind its seconds
dash_at : (text : List ℕ) → 17 ≤ length text → get_or text 8 0 ≡ 45 → text ≡ take 8 text ++ (45 ∷ take 8 (drop 9 text)) ++ drop 17 text
dash_at text long dash =
    let behind : drop 8 text ≡ 45 ∷ (take 8 (drop 9 text) ++ drop 17 text) =
    drop_more text 8 0 (omega arith) ∙ ap (λ (b : ℕ). b ∷ drop 9 text) dash
    ∙ ap (λ (xs : List ℕ). 45 ∷ xs) (sym (take-append-drop 8 (drop 9 text)) ∙ ap (λ (xs : List ℕ). take 8 (drop 9 text) ++ xs) (drop-drop 8 9 text))
    in
    sym (take-append-drop 8 text) ∙ ap (λ (xs : List ℕ). take 8 text ++ xs) behind
    ∙ sym (append_assoc (take 8 text) (45 ∷ take 8 (drop 9 text)) (drop 17 text))

-- the parts, put together
stamped : (text : List ℕ) (ms day second millisecond : ℕ) → text ≡ take 8 text ++ (45 ∷ take 8 (drop 9 text)) ++ drop 17 text → IsDay (take 8 text) day → IsTime (take 8 (drop 9 text)) second → (millisecond < 1_000) × ((drop 17 text ≡ fraction_text millisecond) ⊎ ((drop 17 text ≡ []) × (millisecond ≡ 0))) → (day * 86_400 + second) * 1_000 + millisecond ≡ ms → IsStamp text ms
stamped text ms day second millisecond whole is time fraction e =
    let front : text ≡ date_text is.date ++ (45 ∷ time_text second) ++ drop 17 text =
    whole ∙ ap (λ (xs : List ℕ). xs ++ (45 ∷ take 8 (drop 9 text)) ++ drop 17 text) is.spelled
    ∙ ap (λ (xs : List ℕ). date_text is.date ++ (45 ∷ xs) ++ drop 17 text) time.spelled
    in
    record {
      date = is.date;
      second = second;
      millisecond = millisecond;
      real = is.real;
      of_day = time.within;
      of_second = fraction.0;
      spelled = elim fraction.1 [
        | inl spelled ↦ inl (front ∙ ap (λ (xs : List ℕ). date_text is.date ++ (45 ∷ time_text second) ++ xs) spelled)
        | inr none ↦ inr (front ∙ ap (λ (xs : List ℕ). date_text is.date ++ (45 ∷ time_text second) ++ xs) none.0 ∙ append-nil (date_text is.date ++ (45 ∷ time_text second)), none.1)
      ];
      moment = sym e ∙ ap (λ (d : ℕ). (d * 86_400 + second) * 1_000 + millisecond) (sym is.number);
    }

-- what is read as a moment is a timestamp of it
pub IsStamp-from : (text : List ℕ) (ms : ℕ) → moment_of text ≡ Some ms → IsStamp text ms
unfolding moment_of
IsStamp-from text ms e =
    let got = cond_some_of (nat_le 17 (length text) && eqb (get_or text 8 0) 45) _ ms e in
    let tests = and_parts (nat_le 17 (length text)) (eqb (get_or text 8 0) 45) got.0 in
    let long = leb-true 17 (length text) tests.0 in
    let dash = eqb-true (get_or text 8 0) 45 tests.1 in
    let d = bind_some (day_in (take 8 text)) _ ms got.1 in
    let s = bind_some (second_in (take 8 (drop 9 text))) _ ms d.2 in
    let f = bind_some (fraction_in (drop 17 text)) _ ms s.2 in
    let is : (d.0 * 86_400 + s.0) * 1_000 + f.0 ≡ ms = cc f.2 in
    stamped text ms d.0 s.0 f.0 (dash_at text long dash)
    (day_in-from (take 8 text) d.0 (length-take-le 8 text (omega (arith, long))) d.1)
    (second_in-from (take 8 (drop 9 text)) s.0 (length-take-le 8 (drop 9 text) (omega (arith, long, length-drop 9 text))) s.1)
    (fraction_in-from (drop 17 text) f.0 f.1)
    is

-- the text of a moment is a timestamp of it
pub stamp_of-stamp : (ms : ℕ) → ms ≤ 253_402_300_799_999 → IsStamp (stamp_of ms) ms
stamp_of-stamp ms low =
    let dated = day_number-date_of_day (ms / 86_400_000) (omega arith) in
    record {
      date = date_of_day (ms / 86_400_000);
      second = ms / 1_000 % 86_400;
      millisecond = ms % 1_000;
      real = dated.real;
      of_day = omega arith;
      of_second = omega arith;
      spelled = inl refl;
      moment = omega (arith, dated.number);
    }
