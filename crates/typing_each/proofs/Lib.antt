mod EachLaws
mod EachSteps
