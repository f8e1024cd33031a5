-- The laws of the C functions: each has one answer, and leaves one content of the caller's memory, up to want of memory.
use Rattle.std.specs.Prelude.{◌≡◌, ℕ, List}
use Rattle.cs_ffi.specs.Answers.{AnswersAgain, AnswersCount, UpToMemory}
use Rattle.cs_ffi.specs.CombinedAnswers.{AnswersCombined, AnswersInverse}
use Rattle.cs_ffi.specs.NormalAnswers.{AnswersNormal}
use Rattle.cs_ffi.specs.SqliteAnswers.{AnswersForSqlite}
use Rattle.cs_ffi.specs.RebasedAnswers.{AnswersRebased}
use Rattle.cs_ffi.specs.declared.answer.Answer.{Answer}

-- reading
abbrev pub OneCount : Type 0
OneCount =
    (input : List ℕ) (one other : Answer) → AnswersCount input one → AnswersCount input other
    → UpToMemory one other (one ≡ other)

-- reading and writing again
abbrev pub OneCopy : Type 0
OneCopy =
    (input before after last : List ℕ) (one other : Answer) → AnswersAgain input before after one
    → AnswersAgain input before last other → UpToMemory one other ((one ≡ other) × (after ≡ last))

-- bringing into normal form
abbrev pub OneNormalAnswer : Type 0
OneNormalAnswer =
    (declared input before after last : List ℕ) (one other : Answer) → AnswersNormal declared input before after one
    → AnswersNormal declared input before last other → UpToMemory one other ((one ≡ other) × (after ≡ last))

-- writing for SQLite
abbrev pub OneSqliteAnswer : Type 0
OneSqliteAnswer =
    (declared input before after last : List ℕ) (one other : Answer) → AnswersForSqlite declared input before after one
    → AnswersForSqlite declared input before last other → UpToMemory one other ((one ≡ other) × (after ≡ last))

-- taking together
abbrev pub OneCombinedAnswer : Type 0
OneCombinedAnswer =
    (lengths inputs before after last : List ℕ) (one other : Answer) → AnswersCombined lengths inputs before after one
    → AnswersCombined lengths inputs before last other → UpToMemory one other ((one ≡ other) × (after ≡ last))

-- taking back
abbrev pub OneInverseAnswer : Type 0
OneInverseAnswer =
    (input before after last : List ℕ) (one other : Answer) → AnswersInverse input before after one
    → AnswersInverse input before last other → UpToMemory one other ((one ≡ other) × (after ≡ last))

-- rebasing
abbrev pub OneRebasedAnswer : Type 0
OneRebasedAnswer =
    (local blob before after last : List ℕ) (one other : Answer) → AnswersRebased local blob before after one
    → AnswersRebased local blob before last other → UpToMemory one other ((one ≡ other) × (after ≡ last))

-- the laws together
pub record AnswerLaws : Type 0 where
  pub count : OneCount
  pub copy : OneCopy
  pub normal : OneNormalAnswer
  pub for_sqlite : OneSqliteAnswer
  pub combined : OneCombinedAnswer
  pub inverse : OneInverseAnswer
  pub rebased : OneRebasedAnswer
