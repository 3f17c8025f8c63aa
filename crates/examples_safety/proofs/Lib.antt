mod SmallRuns
mod Safe
mod FunArguments
