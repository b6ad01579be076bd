pub mod JoinTests
