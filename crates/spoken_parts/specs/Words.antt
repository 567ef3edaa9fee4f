-- The words of what is said to a call with decimals, each as its bytes. Definitions only.
use Rattle.std.specs.Prelude.{ℕ, List, [], ◌∷◌}

-- `: an argument is NaN`, of no. 1
abbrev pub nan_words : List ℕ
nan_words = 58 ∷ 32 ∷ 97 ∷ 110 ∷ 32 ∷ 97 ∷ 114 ∷ 103 ∷ 117 ∷ 109 ∷ 101 ∷ 110 ∷ 116 ∷ 32 ∷ 105 ∷ 115 ∷ 32 ∷ 78 ∷ 97 ∷ 78 ∷ []

-- `: an argument is below zero`, of no. 2
abbrev pub below_zero_words : List ℕ
below_zero_words =
    58 ∷ 32 ∷ 97 ∷ 110 ∷ 32 ∷ 97 ∷ 114 ∷ 103 ∷ 117 ∷ 109 ∷ 101 ∷ 110 ∷ 116 ∷ 32 ∷ 105 ∷ 115 ∷ 32 ∷ 98 ∷ 101 ∷ 108 ∷ 111 ∷
    119 ∷ 32 ∷ 122 ∷ 101 ∷ 114 ∷ 111 ∷ []

-- `: too many zeros`, of no. 3
abbrev pub zeros_words : List ℕ
zeros_words = 58 ∷ 32 ∷ 116 ∷ 111 ∷ 111 ∷ 32 ∷ 109 ∷ 97 ∷ 110 ∷ 121 ∷ 32 ∷ 122 ∷ 101 ∷ 114 ∷ 111 ∷ 115 ∷ []

-- `: a zero that must not be`, of no. 4
abbrev pub zero_words : List ℕ
zero_words =
    58 ∷ 32 ∷ 97 ∷ 32 ∷ 122 ∷ 101 ∷ 114 ∷ 111 ∷ 32 ∷ 116 ∷ 104 ∷ 97 ∷ 116 ∷ 32 ∷ 109 ∷ 117 ∷ 115 ∷ 116 ∷ 32 ∷ 110 ∷ 111 ∷
    116 ∷ 32 ∷ 98 ∷ 101 ∷ []

-- `: RD's z is zero or less`, of no. 5
abbrev pub not_above_words : List ℕ
not_above_words =
    58 ∷ 32 ∷ 82 ∷ 68 ∷ 39 ∷ 115 ∷ 32 ∷ 122 ∷ 32 ∷ 105 ∷ 115 ∷ 32 ∷ 122 ∷ 101 ∷ 114 ∷ 111 ∷ 32 ∷ 111 ∷ 114 ∷ 32 ∷ 108 ∷ 101
    ∷ 115 ∷ 115 ∷ []

-- `: no finite result`, of nos. 6, 7, 8
abbrev pub no_result_words : List ℕ
no_result_words = 58 ∷ 32 ∷ 110 ∷ 111 ∷ 32 ∷ 102 ∷ 105 ∷ 110 ∷ 105 ∷ 116 ∷ 101 ∷ 32 ∷ 114 ∷ 101 ∷ 115 ∷ 117 ∷ 108 ∷ 116 ∷ []

-- `: the mean's rounds are spent`, of no. 9
abbrev pub spent_words : List ℕ
spent_words =
    58 ∷ 32 ∷ 116 ∷ 104 ∷ 101 ∷ 32 ∷ 109 ∷ 101 ∷ 97 ∷ 110 ∷ 39 ∷ 115 ∷ 32 ∷ 114 ∷ 111 ∷ 117 ∷ 110 ∷ 100 ∷ 115 ∷ 32 ∷ 97 ∷
    114 ∷ 101 ∷ 32 ∷ 115 ∷ 112 ∷ 101 ∷ 110 ∷ 116 ∷ []

-- `: a fifth nested RJ call`, of no. 10
abbrev pub fifth_words : List ℕ
fifth_words =
    58 ∷ 32 ∷ 97 ∷ 32 ∷ 102 ∷ 105 ∷ 102 ∷ 116 ∷ 104 ∷ 32 ∷ 110 ∷ 101 ∷ 115 ∷ 116 ∷ 101 ∷ 100 ∷ 32 ∷ 82 ∷ 74 ∷ 32 ∷ 99 ∷ 97 ∷
    108 ∷ 108 ∷ []

-- `: several infinite arguments`, of no. 19
abbrev pub several_infinite_words : List ℕ
several_infinite_words =
    58 ∷ 32 ∷ 115 ∷ 101 ∷ 118 ∷ 101 ∷ 114 ∷ 97 ∷ 108 ∷ 32 ∷ 105 ∷ 110 ∷ 102 ∷ 105 ∷ 110 ∷ 105 ∷ 116 ∷ 101 ∷ 32 ∷ 97 ∷ 114 ∷
    103 ∷ 117 ∷ 109 ∷ 101 ∷ 110 ∷ 116 ∷ 115 ∷ []

-- `: a or b is infinite`, of no. 20
abbrev pub infinite_words : List ℕ
infinite_words =
    58 ∷ 32 ∷ 97 ∷ 32 ∷ 111 ∷ 114 ∷ 32 ∷ 98 ∷ 32 ∷ 105 ∷ 115 ∷ 32 ∷ 105 ∷ 110 ∷ 102 ∷ 105 ∷ 110 ∷ 105 ∷ 116 ∷ 101 ∷ []

-- `: wrong sign of p`, of no. 21
abbrev pub wrong_sign_words : List ℕ
wrong_sign_words = 58 ∷ 32 ∷ 119 ∷ 114 ∷ 111 ∷ 110 ∷ 103 ∷ 32 ∷ 115 ∷ 105 ∷ 103 ∷ 110 ∷ 32 ∷ 111 ∷ 102 ∷ 32 ∷ 112 ∷ []

-- `bad line: `
abbrev pub bad_line_words : List ℕ
bad_line_words = 98 ∷ 97 ∷ 100 ∷ 32 ∷ 108 ∷ 105 ∷ 110 ∷ 101 ∷ 58 ∷ 32 ∷ []

-- `no such function`
abbrev pub no_function_words : List ℕ
no_function_words = 110 ∷ 111 ∷ 32 ∷ 115 ∷ 117 ∷ 99 ∷ 104 ∷ 32 ∷ 102 ∷ 117 ∷ 110 ∷ 99 ∷ 116 ∷ 105 ∷ 111 ∷ 110 ∷ []

-- `no number at place `
abbrev pub no_number_words : List ℕ
no_number_words = 110 ∷ 111 ∷ 32 ∷ 110 ∷ 117 ∷ 109 ∷ 98 ∷ 101 ∷ 114 ∷ 32 ∷ 97 ∷ 116 ∷ 32 ∷ 112 ∷ 108 ∷ 97 ∷ 99 ∷ 101 ∷ 32 ∷ []

-- `number too large at place `
abbrev pub too_large_words : List ℕ
too_large_words =
    110 ∷ 117 ∷ 109 ∷ 98 ∷ 101 ∷ 114 ∷ 32 ∷ 116 ∷ 111 ∷ 111 ∷ 32 ∷ 108 ∷ 97 ∷ 114 ∷ 103 ∷ 101 ∷ 32 ∷ 97 ∷ 116 ∷ 32 ∷ 112 ∷
    108 ∷ 97 ∷ 99 ∷ 101 ∷ 32 ∷ []

-- `too long`
abbrev pub too_long_words : List ℕ
too_long_words = 116 ∷ 111 ∷ 111 ∷ 32 ∷ 108 ∷ 111 ∷ 110 ∷ 103 ∷ []

-- ` argument wanted`
abbrev pub argument_words : List ℕ
argument_words = 32 ∷ 97 ∷ 114 ∷ 103 ∷ 117 ∷ 109 ∷ 101 ∷ 110 ∷ 116 ∷ 32 ∷ 119 ∷ 97 ∷ 110 ∷ 116 ∷ 101 ∷ 100 ∷ []

-- ` arguments wanted`
abbrev pub arguments_words : List ℕ
arguments_words = 32 ∷ 97 ∷ 114 ∷ 103 ∷ 117 ∷ 109 ∷ 101 ∷ 110 ∷ 116 ∷ 115 ∷ 32 ∷ 119 ∷ 97 ∷ 110 ∷ 116 ∷ 101 ∷ 100 ∷ []

-- `call<tab>value<tab>rounds<tab>road<tab>rescalings<tab>refused`
abbrev pub columns_words : List ℕ
columns_words =
    99 ∷ 97 ∷ 108 ∷ 108 ∷ 9 ∷ 118 ∷ 97 ∷ 108 ∷ 117 ∷ 101 ∷ 9 ∷ 114 ∷ 111 ∷ 117 ∷ 110 ∷ 100 ∷ 115 ∷ 9 ∷ 114 ∷ 111 ∷ 97 ∷ 100
    ∷ 9 ∷ 114 ∷ 101 ∷ 115 ∷ 99 ∷ 97 ∷ 108 ∷ 105 ∷ 110 ∷ 103 ∷ 115 ∷ 9 ∷ 114 ∷ 101 ∷ 102 ∷ 117 ∷ 115 ∷ 101 ∷ 100 ∷ []

-- `<tab>bits`
abbrev pub bits_column : List ℕ
bits_column = 9 ∷ 98 ∷ 105 ∷ 116 ∷ 115 ∷ []

-- `   rounds `
abbrev pub rounds_words : List ℕ
rounds_words = 32 ∷ 32 ∷ 32 ∷ 114 ∷ 111 ∷ 117 ∷ 110 ∷ 100 ∷ 115 ∷ 32 ∷ []

-- `, rescaled `
abbrev pub rescaled_words : List ℕ
rescaled_words = 44 ∷ 32 ∷ 114 ∷ 101 ∷ 115 ∷ 99 ∷ 97 ∷ 108 ∷ 101 ∷ 100 ∷ 32 ∷ []

-- `refused `
abbrev pub refused_words : List ℕ
refused_words = 114 ∷ 101 ∷ 102 ∷ 117 ∷ 115 ∷ 101 ∷ 100 ∷ 32 ∷ []
