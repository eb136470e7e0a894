-- The laws of many-way joins and selections: from the form checker's judgement to the outcome.
pub mod Outcomes
